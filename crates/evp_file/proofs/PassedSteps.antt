-- What steps that weren't refused tell, and the first element that passes a test.
use Rattle.std.proofs.Common.{◌≡◌, ℕ, zero, suc, ◌+◌, ◌<◌, Bool, true, false, cond, List, [], ◌∷◌, Option, Some, None, Result, Ok, Err}
use Rattle.std.proofs.Common.{refl, sym, ap, ◌∙◌, arith}
use Rattle.std.specs.Prelude.{slice_get}
use Rattle.std.specs.List.{position_from}
use Rattle.std.specs.Option.{ok_or}
use Rattle.evp_file.specs.declared.fault.FileFault.{FileFault}
use Rattle.evp_file.specs.Steps.{◌>>=◌, only_if}

-- the value of a step that wasn't refused
pub bind_ok : {A B : Type 0} (r : Result A FileFault) (f : A → Result B FileFault) (y : B) → (r >>= f) ≡ Ok y → (x : A) × (r ≡ Ok x)
    × (f x ≡ Ok y)
bind_ok (Ok x) f y e = (x, refl, e)
bind_ok (Err fault) f y e = absurd (cc)

pub only_if_ok : (b : Bool) (fault : FileFault) (x : Unit {0}) → only_if b fault ≡ Ok x → b ≡ true
only_if_ok true fault x e = refl
only_if_ok false fault x e = absurd (cc)

pub ok_or_some : {A : Type 0} (o : Option A) (fault : FileFault) (x : A) → ok_or o fault ≡ Ok x → o ≡ Some x
ok_or_some None fault x e = absurd (cc)
ok_or_some (Some y) fault x e = cc

pub not_refused : {A : Type 0} (b : Bool) (fault : FileFault) (r : Result A FileFault) (y : A) → cond b (Err fault) r ≡ Ok y → (b ≡ false)
    × (r ≡ Ok y)
not_refused true fault r y e = absurd (cc)
not_refused false fault r y e = (refl, e)

abbrev done : {A : Type 0} → A → Result A FileFault
done x = Ok x

pub ok_is : {A : Type 0} (x y : A) → done x ≡ done y → x ≡ y
ok_is x y e = cc

-- ---- the first element that passes

-- element j passes the test, and none before it does
pub record IsFirst {A : Type 0} (p : A → Bool) (xs : List A) (j : ℕ) : Type 0 where
  pub one : A
  pub there : slice_get xs j ≡ Some one
  pub passes : p one ≡ true
  pub before : (i : ℕ) (other : A) → i < j → slice_get xs i ≡ Some other → p other ≡ false

first_behind : {A : Type 0} (p : A → Bool) (x : A) (xs : List A) (j : ℕ) → p x ≡ false → IsFirst p xs j → IsFirst p (x ∷ xs) (suc j)
first_behind {A} p x xs j fails first = record {
  one = first.one;
  there = first.there;
  passes = first.passes;
  before = before_all;
}
  where
    before_all : (i : ℕ) (other : A) → i < suc j → slice_get (x ∷ xs) i ≡ Some other → p other ≡ false
    before_all zero other below there = ap p (let same : other ≡ x = cc in same) ∙ fails
    before_all (suc i) other below there = first.before i other (omega arith) there

found_step : {A : Type 0} (p : A → Bool) (x : A) (xs : List A) (from k : ℕ) (b : Bool) → p x ≡ b
    → cond b (Some from) (position_from p (from + 1) xs) ≡ Some k
    → ((from k : ℕ) → position_from p from xs ≡ Some k → (j : ℕ) × (k ≡ from + j) × IsFirst p xs j) → (j : ℕ) × (k ≡ from + j)
    × IsFirst p (x ∷ xs) j
found_step p x xs from k true passes e later = (
  0,
  (let same : from ≡ k = cc in omega (arith, same)),
  record
      { one = x; there = refl; passes = passes; before = λ i other below there. absurd (omega arith) },
)
found_step p x xs from k false fails e later =
    let at = later (from + 1) k e in
    let is = at.1 in
    (suc at.0, omega (arith, is), first_behind p x xs at.0 fails at.2)

pub found_first : {A : Type 0} (p : A → Bool) (xs : List A) (from k : ℕ) → position_from p from xs ≡ Some k → (j : ℕ) × (k ≡ from + j)
    × IsFirst p xs j
found_first p [] from k e = absurd (cc)
found_first p (x ∷ xs) from k e = found_step p x xs from k (p x) refl e (found_first p xs)

pub first_found : {A : Type 0} (p : A → Bool) (xs : List A) (from j : ℕ) → IsFirst p xs j → position_from p from xs ≡ Some (from + j)
first_found p [] from j first = absurd (let there = first.there in cc)
first_found p (x ∷ xs) from zero first =
    let same : x ≡ first.one = (let there = first.there in cc) in
    let passes : p x ≡ true = ap p same ∙ first.passes in
    ap (λ (b : Bool). cond b (Some from) (position_from p (from + 1) xs)) passes
    ∙ ap (λ (n : ℕ). Some n) (let e : from ≡ from + 0 = omega arith in e)
first_found p (x ∷ xs) from (suc j) first =
    let fails : p x ≡ false = first.before 0 x (omega arith) refl in
    let rest : IsFirst p xs j = record {
      one = first.one;
      there = first.there;
      passes = first.passes;
      before = λ i other below there.
          first.before (suc i) other (omega arith) there;
    } in
    ap (λ (b : Bool). cond b (Some from) (position_from p (from + 1) xs)) fails ∙ first_found p xs (from + 1) j rest
    ∙ ap (λ (n : ℕ). Some n) (let e : from + 1 + j ≡ from + suc j = omega arith in e)
