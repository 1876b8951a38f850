-- A walk from another place and a lower mark reads the same value.
use Rattle.std.proofs.Common.{◌≡◌, ℕ, zero, suc, ◌+◌, ◌*◌, ◌≤◌, ℤ, pos, negsuc, Bool, true, false, not, ◌||◌, nat_lt, nat_eq, List, [], ◌∷◌}
use Rattle.std.proofs.Common.{◌++◌, length, drop, Option, Some, None, Ok, refl, sym, ap, ◌∙◌, subst, arith}
use Rattle.std.specs.Prelude.{⊤}
use Rattle.std.proofs.lemmas.Bool.Decides.{nat_tests}
use Rattle.evp_format.specs.declared.broken.Broken.{Broken}
use Rattle.evp_format.specs.declared.broken.Broken.TheVariants.{NullList, BlockPlace}
use Rattle.evp_format.specs.declared.field.Field.{Field}
use Rattle.evp_format.specs.declared.field.Shape.{Shape}
use Rattle.evp_format.specs.declared.field.Shape.TheVariants.{One, Fixed, Counted}
use Rattle.evp_format.specs.declared.place.PlaceStep.{PlaceStep}
use Rattle.evp_format.specs.declared.place.PlaceStep.TheVariants.{At, Nth}
use Rattle.evp_format.specs.Datum.{Datum, list, rec, Elements, element, entry}
use Rattle.evp_format.specs.Tree.{Tree, tree, Branches, no_fields, branch, Part, number_part, text_part, tree_part, branch_at}
use Rattle.evp_format.specs.Viewing.{Image, Walked, read, broken, then_walk, unless, view_tree, view_branches, view_part, view_shaped}
use Rattle.evp_format.specs.Viewing.{view_counted, view_elements, view_string, ended_text, until_zero, as_list, pointer_at, field_number}
use Rattle.evp_format.specs.Viewing.{viewed}

-- what the first walk reads the second reads, with a mark that is no greater
abbrev pub ReadsAlike : {A : Type 0} → Walked A → Walked A → Type 0
ReadsAlike {A} (read value mark) other = (end : ℕ) × (end ≤ mark) × (other ≡ read value end)
ReadsAlike {A} (broken fault) other = ⊤

pub ReadsAlike-read : {A : Type 0} (value : A) (mark end : ℕ) → end ≤ mark → ReadsAlike (read value mark) (read value end)
ReadsAlike-read value mark end below = (end, below, refl)

pub ReadsAlike-then_walk : {A B : Type 0} (walked other : Walked A) (next next' : A → ℕ → Walked B) → ReadsAlike walked other
    → ((value : A) (mark end : ℕ) → end ≤ mark → ReadsAlike (next value mark) (next' value end))
    → ReadsAlike (then_walk walked next) (then_walk other next')
ReadsAlike-then_walk (read value mark) other next next' alike goes =
    let P : Walked _ → Type 0 = λ w. ReadsAlike (next value mark) (then_walk w next') in
    subst P (sym alike.2) (goes value mark alike.0 alike.1)
ReadsAlike-then_walk (broken fault) other next next' alike goes = tt

ReadsAlike-unless : {A : Type 0} (test test' : Bool) (fault fault' : Broken) (next next' : Unit {0} → Walked A)
    → (test ≡ false → test' ≡ false)
    → (test ≡ false → ReadsAlike (next tt) (next' tt)) → ReadsAlike (unless test fault next) (unless test' fault' next')
ReadsAlike-unless true test' fault fault' next next' passes goes = tt
ReadsAlike-unless false test' fault fault' next next' passes goes =
    let P : Bool → Type 0 = λ b. ReadsAlike (next tt) (unless b fault' next') in
    subst P (sym (passes refl)) (goes refl)

-- a block that starts behind the mark starts behind a lower one
starts_behind : (q mark lower : ℕ) (rest : Bool) → lower ≤ mark → (nat_lt q mark || rest) ≡ false → (nat_lt q lower || rest) ≡ false
starts_behind q mark lower rest below passed = grind (arith, nat_tests)

ReadsAlike-ended : (place place' : List PlaceStep) (q : ℕ) (found : Option (List ℕ))
    → ReadsAlike (ended_text place q found) (ended_text place' q found)
ReadsAlike-ended place place' q None = tt
ReadsAlike-ended place place' q (Some bytes) = (q + length bytes + 1, omega arith, refl)

pub ReadsAlike-string : (image : Image) (place place' : List PlaceStep) (mark lower q : ℕ) → lower ≤ mark
    → ReadsAlike (view_string image place mark q) (view_string image place' lower q)
ReadsAlike-string image place place' mark lower zero below = (lower, below, refl)
ReadsAlike-string image place place' mark lower (suc p) below =
    ReadsAlike-unless (nat_lt (suc p) mark || not (nat_lt (suc p) (length image.bytes)))
    (nat_lt (suc p) lower || not (nat_lt (suc p) (length image.bytes))) (BlockPlace place) (BlockPlace place')
    (λ _. ended_text place (suc p) (until_zero (drop (suc p) image.bytes)))
    (λ _. ended_text place' (suc p) (until_zero (drop (suc p) image.bytes)))
    (starts_behind (suc p) mark lower (not (nat_lt (suc p) (length image.bytes))) below)
    (λ _. ReadsAlike-ended place place' (suc p) (until_zero (drop (suc p) image.bytes)))

pub ReadsAlike-elements : (one one' : ℕ → ℕ → Walked Datum) (n k mark lower : ℕ) → ((i m l : ℕ) → l ≤ m → ReadsAlike (one i m) (one' i l))
    → lower ≤ mark
    → ReadsAlike (view_elements one n k mark) (view_elements one' n k lower)
ReadsAlike-elements one one' zero k mark lower alike below = (lower, below, refl)
ReadsAlike-elements one one' (suc n) k mark lower alike below =
    ReadsAlike-then_walk (one k mark) (one' k lower)
    (λ first after. then_walk (view_elements one n (suc k) after) (λ rest end. read (element first rest) end))
    (λ first after. then_walk (view_elements one' n (suc k) after) (λ rest end. read (element first rest) end))
    (alike k mark lower below)
    (λ first after after' under.
    ReadsAlike-then_walk (view_elements one n (suc k) after) (view_elements one' n (suc k) after')
    (λ rest end. read (element first rest) end) (λ rest end. read (element first rest) end)
    (ReadsAlike-elements one one' n (suc k) after after' alike under)
    (λ rest end end' lower'. (end', lower', refl)))

ReadsAlike-list : (walked other : Walked Elements) → ReadsAlike walked other → ReadsAlike (as_list walked) (as_list other)
ReadsAlike-list walked other alike =
    ReadsAlike-then_walk walked other (λ elements mark. read (list elements) mark) (λ elements mark. read (list elements) mark) alike
    (λ elements mark end below. (end, below, refl))

ReadsAlike-counted : (image : Image) (place place' : List PlaceStep) (z : ℤ) (q size : ℕ) (one one' : ℕ → ℕ → ℕ → Walked Datum)
    (mark lower : ℕ)
    → ((offset i m l : ℕ) → l ≤ m → ReadsAlike (one offset i m) (one' offset i l)) → lower ≤ mark
    → ReadsAlike (view_counted image place z q size one mark) (view_counted image place' z q size one' lower)
ReadsAlike-counted image place place' (negsuc n) q size one one' mark lower alike below = tt
ReadsAlike-counted image place place' (pos zero) q size one one' mark lower alike below = (lower, below, refl)
ReadsAlike-counted image place place' (pos (suc n)) q size one one' mark lower alike below =
    let past = nat_lt (length image.bytes) (q + suc n * size) in
    let elements : Walked Elements = view_elements (λ k after. one (q + k * size) k after) (suc n) 0 (q + suc n * size) in
    let elements' : Walked Elements = view_elements (λ k after. one' (q + k * size) k after) (suc n) 0 (q + suc n * size) in
    ReadsAlike-unless (nat_eq q 0) (nat_eq q 0) (NullList place) (NullList place')
    (λ _. unless (nat_lt q mark || past) (BlockPlace place) (λ _. as_list elements))
    (λ _. unless (nat_lt q lower || past) (BlockPlace place') (λ _. as_list elements'))
    (λ h. h)
    (λ _.
    ReadsAlike-unless (nat_lt q mark || past) (nat_lt q lower || past) (BlockPlace place) (BlockPlace place') (λ _. as_list elements)
    (λ _. as_list elements')
    (starts_behind q mark lower past below)
    (λ _.
    ReadsAlike-list elements elements'
    (ReadsAlike-elements (λ k after. one (q + k * size) k after) (λ k after. one' (q + k * size) k after) (suc n) 0 (q + suc n * size)
    (q + suc n * size)
    (λ i m l under. alike (q + i * size) i m l under) (omega arith))))

ReadsAlike-shaped : (image : Image) (all : Branches) (field : Field) (shape : Shape) (at : ℕ) (place place' : List PlaceStep)
    (one : ℕ → List PlaceStep → ℕ → Walked Datum) (mark lower : ℕ)
    → ((offset : ℕ) (p p' : List PlaceStep) (m l : ℕ) → l ≤ m → ReadsAlike (one offset p m) (one offset p' l)) → lower ≤ mark
    → ReadsAlike (view_shaped image all field shape at place one mark) (view_shaped image all field shape at place' one lower)
ReadsAlike-shaped image all field One at place place' one mark lower alike below = alike (at + field.offset) place place' mark lower below
ReadsAlike-shaped image all field (Fixed n) at place place' one mark lower alike below =
    let elements : Walked Elements = view_elements (λ k after. one (at + field.offset + k * field.size) (place ++ Nth k ∷ []) after) n 0
    mark in
    let elements' : Walked Elements = view_elements (λ k after. one (at + field.offset + k * field.size) (place' ++ Nth k ∷ []) after) n 0
    lower in
    ReadsAlike-list elements elements'
    (ReadsAlike-elements (λ k after. one (at + field.offset + k * field.size) (place ++ Nth k ∷ []) after)
    (λ k after. one (at + field.offset + k * field.size) (place' ++ Nth k ∷ []) after) n 0 mark lower
    (λ i m l under. alike (at + field.offset + i * field.size) (place ++ Nth i ∷ []) (place' ++ Nth i ∷ []) m l under) below)
ReadsAlike-shaped image all field (Counted c) at place place' one mark lower alike below =
    ReadsAlike-counted image place place' (field_number image at (branch_at all c)) (pointer_at image (at + field.offset)) field.size
    (λ offset k after. one offset (place ++ Nth k ∷ []) after) (λ offset k after. one offset (place' ++ Nth k ∷ []) after) mark lower
    (λ offset i m l under. alike offset (place ++ Nth i ∷ []) (place' ++ Nth i ∷ []) m l under) below

mutual
  pub ReadsAlike-tree : (image : Image) (t : Tree) (at : ℕ) (place place' : List PlaceStep) (mark lower : ℕ) → lower ≤ mark
      → ReadsAlike (view_tree image t at place mark) (view_tree image t at place' lower)
  ReadsAlike-tree image (tree length branches) at place place' mark lower below =
      ReadsAlike-then_walk (view_branches image branches branches at 0 place mark) (view_branches image branches branches at 0 place' lower)
      (λ entries after. read (rec entries) after) (λ entries after. read (rec entries) after)
      (ReadsAlike-branches image branches branches at 0 place place' mark lower below)
      (λ entries after after' under. (after', under, refl))

  ReadsAlike-branches : (image : Image) (all branches : Branches) (at k : ℕ) (place place' : List PlaceStep) (mark lower : ℕ) → lower ≤ mark
      → ReadsAlike (view_branches image all branches at k place mark) (view_branches image all branches at k place' lower)
  ReadsAlike-branches image all no_fields at k place place' mark lower below = (lower, below, refl)
  ReadsAlike-branches image all (branch field part rest) at k place place' mark lower below =
      let one : ℕ → List PlaceStep → ℕ → Walked Datum = λ offset p after. view_part image part field.size offset p after in
      ReadsAlike-then_walk (view_shaped image all field field.shape at (place ++ At k ∷ []) one mark)
      (view_shaped image all field field.shape at (place' ++ At k ∷ []) one lower)
      (λ value after. then_walk (view_branches image all rest at (suc k) place after)
      (λ others end. read (entry field.name value others) end))
      (λ value after. then_walk (view_branches image all rest at (suc k) place' after)
      (λ others end. read (entry field.name value others) end))
      (ReadsAlike-shaped image all field field.shape at (place ++ At k ∷ []) (place' ++ At k ∷ []) one mark lower
      (λ offset p p' m l under. ReadsAlike-part image part field.size offset p p' m l under) below)
      (λ value after after' under.
      ReadsAlike-then_walk (view_branches image all rest at (suc k) place after) (view_branches image all rest at (suc k) place' after')
      (λ others end. read (entry field.name value others) end) (λ others end. read (entry field.name value others) end)
      (ReadsAlike-branches image all rest at (suc k) place place' after after' under)
      (λ others end end' lower'. (end', lower', refl)))

  pub ReadsAlike-part : (image : Image) (part : Part) (size at : ℕ) (place place' : List PlaceStep) (mark lower : ℕ) → lower ≤ mark
      → ReadsAlike (view_part image part size at place mark) (view_part image part size at place' lower)
  ReadsAlike-part image (number_part kind) size at place place' mark lower below = (lower, below, refl)
  ReadsAlike-part image text_part size at place place' mark lower below = ReadsAlike-string image place place' mark lower
      (pointer_at image at) below
  ReadsAlike-part image (tree_part nested) size at place place' mark lower below = ReadsAlike-tree image nested at place place' mark lower
      below

-- so the values are equal
pub viewed-alike : (walked other : Walked Datum) (value : Datum) (mark : ℕ) → ReadsAlike walked other → walked ≡ read value mark
    → viewed other ≡ Ok value
viewed-alike (read found end) other value mark alike is =
    let same : found ≡ value = cc in
    ap viewed alike.2 ∙ ap (λ (v : Datum). Ok v) same
viewed-alike (broken fault) other value mark alike is = cc
