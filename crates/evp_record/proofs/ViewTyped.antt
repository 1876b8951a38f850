-- What is viewed is of the format: numbers in their ranges, lists of their lengths, texts without a zero byte.
use Rattle.std.proofs.Common.{◌≡◌, ℕ, zero, suc, ◌+◌, ◌*◌, ◌≤◌, ◌<◌, ℤ, pos, negsuc, Bool, true, false, ◌||◌, not, nat_lt, nat_eq, List, []}
use Rattle.std.proofs.Common.{◌∷◌, length, drop, Option, Some, None, option_map, refl, sym, ap, ◌∙◌, subst, arith, if◌then◌else◌}
use Rattle.std.proofs.Math.Dec.{eqb-suc-zero}
use Rattle.std.proofs.lemmas.Bool.{ltb-false}
use Rattle.std.proofs.lemmas.List.Elements.{All-cons, All-drop, All-nil}
use Rattle.evp_base.proofs.Digits.{AreBytes}
use Rattle.evp_format.specs.Datum.{Datum, null, text, list, Elements, empty_list, element, count_of}
use Rattle.evp_format.specs.declared.broken.Broken.{Broken}
use Rattle.evp_format.specs.declared.place.PlaceStep.{PlaceStep}
use Rattle.evp_format.specs.Text.{HasNoZero}
use Rattle.evp_format.specs.Typed.{EachElement, IsListOf, IsText}
use Rattle.evp_format.specs.Viewing.{Image, Walked, read, broken, then_walk, unless, until_zero, ended_text, view_string, view_elements}
use Rattle.evp_format.specs.Viewing.{as_list, view_counted}

pub times_le : (a b c : ℕ) → a ≤ b → a * c ≤ b * c
times_le a b c le = grind arith

-- what a walk that goes on has read
pub record WentOn {A B : Type 0} (walked : Walked A) (next : A → ℕ → Walked B) (value : B) (end : ℕ) : Type 0 where
  pub first : A
  pub mark : ℕ
  pub reads : walked ≡ read first mark
  pub rest : next first mark ≡ read value end

pub went_on : {A B : Type 0} (walked : Walked A) (next : A → ℕ → Walked B) (value : B) (end : ℕ) → then_walk walked next ≡ read value end
    → WentOn walked next value end
went_on (read first mark) next value end is = record { first = first; mark = mark; reads = refl; rest = is }
went_on (broken fault) next value end is = cc

pub passed : {A : Type 0} (test : Bool) (fault : Broken) (next : Unit {0} → Walked A) (value : A) (end : ℕ)
    → unless test fault next ≡ read value end → (test ≡ false) × (next tt ≡ read value end)
passed true fault next value end is = cc
passed false fault next value end is = (refl, is)

either_false : (a b : Bool) → (a || b) ≡ false → (a ≡ false) × (b ≡ false)
either_false true b is = cc
either_false false b is = (refl, is)

-- bytes of which none is zero, as a text has them
abbrev IsTextOf : List ℕ → Type 0
IsTextOf bytes = HasNoZero bytes × AreBytes bytes

behind_some : (n : ℕ) (found : Option (List ℕ)) (text' : List ℕ) → suc n < 256 → ((rest : List ℕ) → found ≡ Some rest → IsTextOf rest)
    → option_map (λ (rest : List ℕ). suc n ∷ rest) found ≡ Some text' → IsTextOf text'
behind_some n None text' small none is = cc
behind_some n (Some rest) text' small none is =
    let same : suc n ∷ rest ≡ text' = cc in
    let behind = none rest refl in
    subst IsTextOf same (
      ((λ (zero_byte : suc n ≡ 0). omega arith), behind.0),
      All-cons (λ (byte : ℕ). byte < 256) (suc n) rest small behind.1,
    )

-- the bytes before a zero have none
until_zero-no_zero : (bytes text' : List ℕ) → AreBytes bytes → until_zero bytes ≡ Some text' → IsTextOf text'
until_zero-no_zero [] text' are is = cc
until_zero-no_zero (zero ∷ bytes) text' are is = let same : [] ≡ text' = cc in subst IsTextOf same (tt, All-nil (λ (byte : ℕ). byte < 256))
until_zero-no_zero (suc n ∷ bytes) text' are is =
    let test = ap (λ (t : Bool). if t then Some [] else option_map (λ (rest : List ℕ). suc n ∷ rest) (until_zero bytes))
    (sym (eqb-suc-zero n)) in
    behind_some n (until_zero bytes) text' (are 0 0 (omega arith))
    (λ rest found. until_zero-no_zero bytes rest (λ k d below. are (suc k) d (omega arith)) found) (test ∙ is)

-- elements that were read
pub elements_typed : (P : Datum → Type 0) (one : ℕ → ℕ → Walked Datum) (n k mark end : ℕ) (elements : Elements)
    → ((i after last : ℕ) (value : Datum) → i < k + n → one i after ≡ read value last → P value)
    → view_elements one n k mark ≡ read elements end → (count_of elements ≡ n) × EachElement P elements
elements_typed P one zero k mark end elements each is =
    let same : empty_list ≡ elements = cc in
    let Typed : Elements → Type 0 = λ es. (count_of es ≡ 0) × EachElement P es in
    subst Typed same (refl, tt)
elements_typed P one (suc n) k mark end elements each is =
    let first = went_on (one k mark) (λ first after. then_walk (view_elements one n (suc k) after)
    (λ rest last. read (element first rest) last)) elements end is in
    let rest = went_on (view_elements one n (suc k) first.mark) (λ rest last. read (element first.first rest) last) elements end first.rest
    in
    let others = elements_typed P one n (suc k) first.mark rest.mark rest.first
    (λ i after last value below read_it. each i after last value (omega (arith, below)) read_it) rest.reads in
    let same : element first.first rest.first ≡ elements = (let h = rest.rest in cc) in
    let Typed : Elements → Type 0 = λ es. (count_of es ≡ suc n) × EachElement P es in
    subst Typed same (ap suc others.0, (each k mark first.mark first.first (omega arith) first.reads, others.1))

-- a string that was read
pub string_typed : (image : Image) (place : List PlaceStep) (mark q end : ℕ) (value : Datum) → AreBytes image.bytes
    → view_string image place mark q ≡ read value end → IsText value
string_typed image place mark zero end value are is = let same : null ≡ value = cc in subst IsText same tt
string_typed image place mark (suc p) end value are is =
    let through = passed (nat_lt (suc p) mark || not (nat_lt (suc p) (length image.bytes))) _ _ value end is in
    let behind = All-drop (λ (byte : ℕ). byte < 256) (suc p) image.bytes are in
    ended (until_zero (drop (suc p) image.bytes)) (λ text' found. until_zero-no_zero (drop (suc p) image.bytes) text' behind found)
    through.1
  where
    ended : (found : Option (List ℕ)) → ((text' : List ℕ) → found ≡ Some text' → IsTextOf text')
        → ended_text place (suc p) found ≡ read value end → IsText value
    ended None none is' = cc
    ended (Some text') none is' = let same : text text' ≡ value = cc in subst IsText same (none text' refl)

-- a list that was read
pub list_typed : (P : Datum → Type 0) (one : ℕ → ℕ → Walked Datum) (n mark end : ℕ) (value : Datum)
    → ((i after last : ℕ) (element' : Datum) → i < n → one i after ≡ read element' last → P element')
    → as_list (view_elements one n 0 mark) ≡ read value end → IsListOf P (Some (pos n)) value
list_typed P one n mark end value each is =
    let elements = went_on (view_elements one n 0 mark) (λ elements after. read (list elements) after) value end is in
    let typed = elements_typed P one n 0 mark elements.mark elements.first
    (λ i after last element' below read_it. each i after last element' (omega (arith, below)) read_it) elements.reads in
    let same : list elements.first ≡ value = (let h = elements.rest in cc) in
    let count : Some (pos n) ≡ Some (pos (count_of elements.first)) = ap (λ (m : ℕ). Some (pos m)) (sym typed.0) in
    subst (IsListOf P (Some (pos n))) same (count, typed.1)

-- a counted array that was read, and its elements inside the bytes
pub counted_typed : (image : Image) (P : Datum → Type 0) (place : List PlaceStep) (z : ℤ) (q size : ℕ) (one : ℕ → ℕ → ℕ → Walked Datum)
    (mark end : ℕ) (value : Datum)
    → ((offset k after last : ℕ) (element' : Datum) → offset + size ≤ length image.bytes → one offset k after ≡ read element' last
    → P element') → view_counted image place z q size one mark ≡ read value end
    → IsListOf P (Some z) value
counted_typed image P place (negsuc n) q size one mark end value each is = cc
counted_typed image P place (pos zero) q size one mark end value each is = let same : list empty_list
    ≡ value = cc in subst (IsListOf P (Some (pos 0))) same (refl, tt)
counted_typed image P place (pos (suc n)) q size one mark end value each is =
    let count = suc n in
    let some = passed (nat_eq q 0) _ _ value end is in
    let placed = passed (nat_lt q mark || nat_lt (length image.bytes) (q + count * size)) _ _ value end some.1 in
    let inside = ltb-false (length image.bytes) (q + count * size)
    (either_false (nat_lt q mark) (nat_lt (length image.bytes) (q + count * size)) placed.0).1 in
    list_typed P (λ k after. one (q + k * size) k after) count (q + count * size) end value
    (λ i after last element' below read_it. let within = times_le (suc i) count size below in each (q + i * size) i after last element'
    (omega (arith, inside, within)) read_it) placed.1
