-- What was read, taken apart: each step of it succeeded.
use Rattle.std.proofs.Common.{◌≡◌, ℕ, suc, ◌+◌, ◌≤◌, Bool, true, false, ◌&&◌, List, [], ◌∷◌, ◌++◌, length}
use Rattle.std.proofs.Common.{Result, Ok, Err, Option, Some, None, All, refl, sym, ap, ◌∙◌, subst, arith}
use Rattle.std.specs.Prelude.{nat_le}
use Rattle.std.specs.Option.{ok_or}
use Rattle.std.proofs.lemmas.Bool.{leb-true}
use Rattle.std.proofs.lemmas.List.{length-append}
use Rattle.std.proofs.lemmas.List.Elements.{All-nil, All-push}
use Rattle.evp_base.specs.declared.step.Step.{Step}
use Rattle.evp_base.specs.declared.step.Step.TheVariants.{Index}
use Rattle.serde_json.specs.Data.{Data}
use Rattle.evp_job.specs.declared.fault.JobFault.{JobFault}
use Rattle.evp_job.specs.declared.fault.JobFault.TheVariants as fault
use Rattle.evp_job.specs.Forms.{list_in, list_within}
use Rattle.evp_job.specs.Steps.{◌>>=◌, only_if, under, all_from, one_more, each_in}

pub record WentOn {A B : Type 0} (said : Result A JobFault) (next : A → Result B JobFault) (y : B) : Type 0 where
  pub value : A
  pub first : said ≡ Ok value
  pub rest : next value ≡ Ok y

pub went_on : {A B : Type 0} (said : Result A JobFault) (next : A → Result B JobFault) (y : B)
    → (said >>= next) ≡ Ok y → WentOn said next y
went_on (Ok x) next y is = record { value = x; first = refl; rest = is }
went_on (Err cause) next y is = cc

pub from_under : {A : Type 0} (step : Step) (said : Result A JobFault) (y : A) → under step said ≡ Ok y → said ≡ Ok y
from_under step (Ok x) y is = is
from_under step (Err cause) y is = cc

abbrev fine : {A : Type 0} → A → Result A JobFault
fine x = Ok x

pub the_same : {A : Type 0} (x y : A) → fine x ≡ fine y → x ≡ y
the_same x y is = cc

pub from_some : {A : Type 0} (found : Option A) (cause : JobFault) (y : A) → ok_or found cause ≡ Ok y → found ≡ Some y
from_some (Some x) cause y is = cc
from_some None cause y is = cc

-- ---- tests that were passed

pub passed : (test : Bool) (cause : JobFault) (u : Unit {0}) → only_if test cause ≡ Ok u → test ≡ true
passed true cause u is = refl
passed false cause u is = cc

pub both : (a b : Bool) → (a && b) ≡ true → (a ≡ true) × (b ≡ true)
both true b is = (refl, is)
both false b is = cc

pub inside : (least greatest n : ℕ) (cause : JobFault) (u : Unit {0})
    → only_if (nat_le least n && nat_le n greatest) cause ≡ Ok u → (least ≤ n) × (n ≤ greatest)
inside least greatest n cause u is =
    let p = both (nat_le least n) (nat_le n greatest) (passed (nat_le least n && nat_le n greatest) cause u is) in
    (leb-true least n p.0, leb-true n greatest p.1)

pub as_many : (least greatest : ℕ) (value : Option Data) (values : List Data) → list_within least greatest value ≡ Ok values
    → (least ≤ length values) × (length values ≤ greatest)
unfolding list_within
as_many least greatest value values is =
    let read = went_on (list_in value) _ values is in
    let tested = went_on (only_if (nat_le least (length read.value) && nat_le (length read.value) greatest)
    (fault.Limit [] (length read.value))) _ values read.rest in
    let range = inside least greatest (length read.value) (fault.Limit [] (length read.value)) tested.value tested.first in
    subst (λ (xs : List Data). (least ≤ length xs) × (length xs ≤ greatest)) (the_same read.value values tested.rest) range

-- ---- values one behind another

-- what holds at the start, and is kept by each step
pub all_kept : {A X : Type 0} (P : ℕ → A → Type 0) (step : ℕ → A → X → Result A JobFault)
    → ((k : ℕ) (done more : A) (x : X) → P k done → step k done x ≡ Ok more → P (k + 1) more)
    → (k : ℕ) (done end : A) (xs : List X) → P k done → all_from step k done xs ≡ Ok end → P (k + length xs) end
all_kept P step keeps k done end [] holds is =
    let none : k ≡ k + 0 = omega arith in
    subst (λ (e : _). P (k + 0) e) (the_same done end is) (subst (λ (n : ℕ). P n done) none holds)
all_kept P step keeps k done end (x ∷ xs) holds is =
    let one = went_on (step k done x) (λ more. all_from step (k + 1) more xs) end is in
    let more = all_kept P step keeps (k + 1) one.value end xs (keeps k done one.value x holds one.first) one.rest in
    let sum : (k + 1) + length xs ≡ k + suc (length xs) = omega arith in
    subst (λ (n : ℕ). P n end) sum more

pub none_before : (n : ℕ) → 0 + n ≡ n
none_before n = omega arith

pub from_zero : {A X : Type 0} (P : ℕ → A → Type 0) (step : ℕ → A → X → Result A JobFault)
    → ((k : ℕ) (done more : A) (x : X) → P k done → step k done x ≡ Ok more → P (k + 1) more)
    → (done end : A) (xs : List X) → P 0 done → all_from step 0 done xs ≡ Ok end → P (length xs) end
from_zero P step keeps done end xs holds is =
    subst (λ (n : ℕ). P n end) (none_before (length xs)) (all_kept P step keeps 0 done end xs holds is)

-- each of the values has what each reading has, and there are as many
pub record IsEach {A : Type 0} (Q : A → Type 0) (k : ℕ) (done : List A) : Type 0 where
  pub each : All Q done
  pub count : length done ≡ k

pub more_of : {A : Type 0} (Q : A → Type 0) (one : Data → Result A JobFault)
    → ((value : Data) (x : A) → one value ≡ Ok x → Q x)
    → (k : ℕ) (done more : List A) (value : Data) → IsEach Q k done → one_more one k done value ≡ Ok more
    → IsEach Q (k + 1) more
more_of Q one holds k done more value so_far is =
    let read = went_on (under (Index k) (one value)) (λ x. Ok (done ++ x ∷ [])) more is in
    let x = read.value in
    let good = holds value x (from_under (Index k) (one value) x read.first) in
    subst (IsEach Q (k + 1)) (the_same (done ++ x ∷ []) more read.rest)
    (record {
      each = All-push Q done x so_far.each good;
      count = length-append done (x ∷ []) ∙ ap (λ (n : ℕ). n + 1) so_far.count;
    })

pub none_yet : {A : Type 0} (Q : A → Type 0) → IsEach Q 0 []
none_yet Q = record { each = All-nil Q; count = refl }

pub each_kept : {A : Type 0} (Q : A → Type 0) (one : Data → Result A JobFault)
    → ((value : Data) (x : A) → one value ≡ Ok x → Q x)
    → (values : List Data) (xs : List A) → each_in one values ≡ Ok xs → IsEach Q (length values) xs
each_kept Q one holds values xs is =
    from_zero (IsEach Q) (one_more one) (more_of Q one holds) [] xs values (none_yet Q) is
