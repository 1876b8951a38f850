-- What a conversion has made where it goes on: its parts, one after another, within the limit.
use Rattle.std.proofs.Common.{◌≡◌, ℕ, suc, ◌+◌, ◌*◌, ◌≤◌, Bool, true, false, nat_lt, List, length, Option, Some, None, refl, ap, ◌∙◌, subst}
use Rattle.std.proofs.Common.{arith}
use Rattle.std.proofs.lemmas.Bool.{ltb-false}
use Rattle.evp_format.specs.declared.place.PlaceStep.{PlaceStep}
use Rattle.evp_format.specs.Bytes.{next_block}
use Rattle.evp_format.specs.Converting.{Made, made, unfit, large, then_make, unless_unfit, unless_large, take_block, make_text}
use Rattle.evp_format.specs.Converting.{make_elements}
use Rattle.evp_format.specs.Datum.{Datum, num, null, text, list, rec, Elements, empty_list, element, count_of}
use Rattle.evp_format.specs.Packing.{Machine, Pieces, pack_text, pack_elements}
use Rattle.evp_format.specs.Typed.{EachElement, IsText}
use Rattle.evp_format.proofs.TextsInside.{HasTexts, EachHasTexts, HasTextsWhereSome}

-- a conversion that goes on: what came first, and what was made behind it
pub record WentOn {A B : Type 0} (first : Made A) (next : A → ℕ → Made B) (value : B) (end : ℕ) : Type 0 where
  pub value_first : A
  pub size : ℕ
  pub makes : first ≡ made value_first size
  pub rest : next value_first size ≡ made value end

pub went_on : {A B : Type 0} (first : Made A) (next : A → ℕ → Made B) (value : B) (end : ℕ) → then_make first next ≡ made value end
    → WentOn first next value end
went_on (made a size) next value end is = record { value_first = a; size = size; makes = refl; rest = is }
went_on (unfit place) next value end is = cc
went_on (large place) next value end is = cc

pub fitted : {A : Type 0} (test : Bool) (place : List PlaceStep) (next : Unit {0} → Made A) (value : A) (end : ℕ)
    → unless_unfit test place next ≡ made value end → (test ≡ false) × (next tt ≡ made value end)
fitted true place next value end is = cc
fitted false place next value end is = (refl, is)

pub within : {A : Type 0} (test : Bool) (place : List PlaceStep) (next : Unit {0} → Made A) (value : A) (end : ℕ)
    → unless_large test place next ≡ made value end → (test ≡ false) × (next tt ≡ made value end)
within true place next value end is = cc
within false place next value end is = (refl, is)

-- a block that was taken
pub block_taken : {A : Type 0} (limit : ℕ) (place : List PlaceStep) (k size : ℕ) (next : ℕ → Made A) (value : A) (end : ℕ)
    → take_block limit place k size next ≡ made value end
    → (next_block size + k ≤ limit) × (next (next_block size + k) ≡ made value end)
block_taken limit place k size next value end is =
    let through = within (nat_lt limit (next_block size + k)) place (λ _. next (next_block size + k)) value end is in
    (ltb-false limit (next_block size + k) through.0, through.1)

-- a value that was made behind `size`: of its type, and packed up to `after`, within the limit
pub record IsMade (P : Datum → Type 0) (packs : ℕ → Datum → ℕ → Pieces) (limit size : ℕ) (value : Datum) (after : ℕ) : Type 0 where
  pub typed : P value
  pub packed : (at : ℕ) → (packs at value size).size ≡ after
  pub within : after ≤ limit

-- each that is made from a partner is
abbrev pub MakesEach : (Datum → Type 0) → (ℕ → Datum → ℕ → Pieces) → ℕ → (List PlaceStep → Datum → ℕ → Made Datum) → Type 0
MakesEach P packs limit one =
    (place : List PlaceStep) (partner : Datum) (size after : ℕ) (value : Datum) → HasTexts partner → size ≤ limit
    → one place partner size ≡ made value after → IsMade P packs limit size value after

null_made : (machine : Machine) (limit size after : ℕ) (value : Datum) → size ≤ limit → made null size ≡ made value after
    → IsMade IsText (λ at datum s. pack_text machine at datum s) limit size value after
null_made machine limit size after value fits is =
    let same : null ≡ value = cc in
    let end : size ≡ after = cc in
    let Right : Datum → Type 0 = λ v. IsMade IsText (λ at datum s. pack_text machine at datum s) limit size v after in
    subst Right same (record { typed = tt; packed = λ at. end; within = omega (arith, end, fits) })

-- a text
pub made_text : (machine : Machine) (limit : ℕ) (place : List PlaceStep) (partner : Option Datum) (size after : ℕ) (value : Datum)
    → HasTextsWhereSome partner → size ≤ limit
    → make_text limit place partner size ≡ made value after → IsMade IsText (λ at datum s. pack_text machine at datum s) limit size value
    after
made_text machine limit place (Some (text bytes)) size after value texts fits is =
    let taken = block_taken limit place (length bytes + 1) size (λ end. made (text bytes) end) value after is in
    let same : text bytes ≡ value = (let h = taken.1 in cc) in
    let end : next_block size + (length bytes + 1) ≡ after = (let h = taken.1 in cc) in
    let below = taken.0 in
    let Right : Datum → Type 0 = λ v. IsMade IsText (λ at datum s. pack_text machine at datum s) limit size v after in
    subst Right same (record { typed = texts; packed = λ at. omega (arith, end); within = omega (arith, end, below) })
made_text machine limit place None size after value texts fits is = null_made machine limit size after value fits is
made_text machine limit place (Some null) size after value texts fits is = null_made machine limit size after value fits is
made_text machine limit place (Some (num n)) size after value texts fits is = null_made machine limit size after value fits is
made_text machine limit place (Some (list elements)) size after value texts fits is = null_made machine limit size after value fits is
made_text machine limit place (Some (rec entries)) size after value texts fits is = null_made machine limit size after value fits is

-- elements, one after another
pub record AreMade (P : Datum → Type 0) (packs : ℕ → Datum → ℕ → Pieces) (limit k size : ℕ) (partners elements : Elements) (after : ℕ) :
    Type 0 where
  pub typed : EachElement P elements
  pub count : count_of elements ≡ count_of partners
  pub packed : (base element_size : ℕ) → (pack_elements (λ i. packs (base + i * element_size)) elements k size).size ≡ after
  pub within : after ≤ limit

pub made_elements : (P : Datum → Type 0) (packs : ℕ → Datum → ℕ → Pieces) (limit : ℕ) (one : List PlaceStep → Datum → ℕ → Made Datum)
    (places : ℕ → List PlaceStep) → MakesEach P packs limit one
    → (partners : Elements) (k size after : ℕ) (elements : Elements) → EachHasTexts partners → size ≤ limit
    → make_elements (λ i. one (places i)) partners k size ≡ made elements after
    → AreMade P packs limit k size partners elements after
made_elements P packs limit one places each empty_list k size after elements texts fits is =
    let same : empty_list ≡ elements = cc in
    let end : size ≡ after = cc in
    let Right : Elements → Type 0 = λ es. AreMade P packs limit k size empty_list es after in
    subst Right same (record { typed = tt; count = refl; packed = λ base element_size. end; within = omega (arith, end, fits) })
made_elements P packs limit one places each (element partner partners) k size after elements texts fits is =
    let first = went_on (one (places k) partner size) (λ value end. then_make (make_elements (λ i. one (places i)) partners (suc k) end)
    (λ rest last. made (element value rest) last)) elements after is in
    let others = went_on (make_elements (λ i. one (places i)) partners (suc k) first.size)
    (λ rest last. made (element first.value_first rest) last) elements after first.rest in
    let good = each (places k) partner size first.size first.value_first texts.0 fits first.makes in
    let more = made_elements P packs limit one places each partners (suc k) first.size others.size others.value_first texts.1 good.within
    others.makes in
    let same : element first.value_first others.value_first ≡ elements = (let h = others.rest in cc) in
    let end : others.size ≡ after = (let h = others.rest in cc) in
    let Right : Elements → Type 0 = λ es. AreMade P packs limit k size (element partner partners) es after in
    subst Right same (record {
      typed = (good.typed, more.typed);
      count = ap suc more.count;
      packed = λ base element_size.
          ap (λ (n : ℕ). (pack_elements (λ i. packs (base + i * element_size)) others.value_first (suc k) n).size)
          (good.packed (base + k * element_size)) ∙ more.packed base element_size ∙ end;
      within = subst (λ (n : ℕ). n ≤ limit) end more.within;
    })
