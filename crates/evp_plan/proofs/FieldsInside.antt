-- The fields of a sender's record that stands inside the bytes, and its numbers, stand there too.
use Rattle.std.proofs.Common.{◌≡◌, ℕ, zero, suc, ◌+◌, ◌≤◌, pos, Bool, true, false, IsTrue, List, length, Option, Some, None, refl, sym}
use Rattle.std.proofs.Common.{ap, ◌∙◌, subst, arith}
use Rattle.std.specs.Prelude.{slice_get, ⊤, if◌then◌else◌}
use Rattle.evp_base.specs.declared.kind.Kind.{Kind}
use Rattle.evp_base.specs.Numbers.{is_size_of}
use Rattle.evp_format.specs.declared.field.Field.{Field}
use Rattle.evp_format.specs.declared.field.Shape.{Shape}
use Rattle.evp_format.specs.declared.field.Shape.TheVariants.{One, Fixed, Counted}
use Rattle.evp_format.specs.Bytes.{bytes_equal}
use Rattle.evp_format.specs.Clashing.{branch_named, clash_partners, clash_parts}
use Rattle.evp_format.specs.LaidTree.{IsLaidTree, AreLaidBranches, IsLaidPart}
use Rattle.evp_format.specs.Tree.{tree, Branches, no_fields, branch, Part, number_part, text_part, tree_part, branch_at, fields_of}
use Rattle.evp_format.specs.Viewing.{Image}
use Rattle.evp_format.specs.WellLaid.{extent, shape_extent, HasShape}
use Rattle.evp_plan.specs.Matching.{Content, content_of, known_branches, number_origin, single_origin, wanted_origin}
use Rattle.evp_plan.specs.Ready.{IsOriginThere}
use Rattle.evp_plan.proofs.Alikes.{is_array, same_shape}
use Rattle.evp_plan.proofs.NoClash.{AreAlike, alike_with, IsAlike}
use Rattle.evp_plan.proofs.Sent.{known_of, known_named-branches}
use Rattle.evp_plan.proofs.Sounds.{AreWithin, within_laid}

-- a record with these fields is inside the bytes, and its counts are single numbers
pub record IsInside (image : Image) (from : Branches) (at : ℕ) : Type 0 where
  pub long : ℕ
  pub laid : AreLaidBranches image.pointer from
  pub each : AreWithin image.pointer long (fields_of from)
  pub counts : (k c : ℕ) (field counter : Field) → slice_get (fields_of from) k ≡ Some field → field.shape ≡ Counted c
      → slice_get (fields_of from) c ≡ Some counter → counter.shape ≡ One
  pub fits : at + long ≤ length image.bytes

pub nothing_inside : (image : Image) (at : ℕ) → at ≤ length image.bytes → IsInside image no_fields at
nothing_inside image at fits =
    record {
      long = 0;
      laid = tt;
      each = λ k field found. absurd (cc);
      counts = λ k c field counter found is there. absurd (cc);
      fits = omega (arith, fits);
    }

same_field : (a b : Field) → Some a ≡ Some b → a ≡ b
same_field a b is = cc

pub inside_laid : (image : Image) (long at : ℕ) (from : Branches) → IsLaidTree image.pointer (tree long from)
    → at + long ≤ length image.bytes → IsInside image from at
inside_laid image long at from laid fits =
    let record_laid = laid.0 in
    let in_type : (k : ℕ) (field : Field) → slice_get (fields_of from) k ≡ Some field → slice_get record_laid.type.fields k ≡ Some field =
    λ k field found. ap (λ (fields : List Field). slice_get fields k) record_laid.has_fields ∙ found in
    record {
      long = long;
      laid = laid.1;
      each = within_laid image.pointer long from record_laid;
      counts = λ k c field counter found is there.
          (let shaped : HasShape record_laid.type.fields (Counted c) = subst (HasShape record_laid.type.fields) is
          (record_laid.laid.each_field k field (in_type k field found)).shape_allowed in
          let same = same_field counter shaped.0 (sym (in_type c counter there) ∙ shaped.1) in
          ap (λ (f : Field). f.shape) same ∙ shaped.2);
      fits = fits;
    }

-- a field of such a record
pub record IsHeld (image : Image) (at : ℕ) (field : Field) (part : Part) : Type 0 where
  pub within : at + field.offset + extent image.pointer field ≤ length image.bytes
  pub laid : IsLaidPart image.pointer field.size part

-- a field of a number, with its part
pub record FieldHeld (image : Image) (from : Branches) (at : ℕ) (field : Field) (part : Part) : Type 0 where
  pub number : ℕ
  pub there : slice_get (fields_of from) number ≡ Some field
  pub held : IsHeld image at field part

abbrev pub IsNamed : Image → Branches → ℕ → Option (Field × Part) → Type 0
IsNamed image from at None = ⊤
IsNamed image from at (Some (field, part)) = FieldHeld image from at field part

named_later : (image : Image) (at : ℕ) (first : Field) (first_part : Part) (rest : Branches) (found : Option (Field × Part))
    → IsNamed image rest at found → IsNamed image (branch first first_part rest) at found
named_later image at first first_part rest None held = tt
named_later image at first first_part rest (Some (field, part)) held = record
    { number = suc held.number; there = held.there; held = held.held }

named_if : (image : Image) (from : Branches) (at : ℕ) (same : Bool) (field : Field) (part : Part) (found : Option (Field × Part))
    → FieldHeld image from at field part → IsNamed image from at found
    → IsNamed image from at (if same then Some (field, part) else found)
named_if image from at true field part found here later = here
named_if image from at false field part found here later = later

named_held : (image : Image) (from : Branches) (at long : ℕ) (name : List ℕ) → AreLaidBranches image.pointer from
    → AreWithin image.pointer long (fields_of from) → at + long ≤ length image.bytes
    → IsNamed image from at (branch_named name from)
named_held image no_fields at long name laid each fits = tt
named_held image (branch field part rest) at long name laid each fits =
    let inside = each 0 field refl in
    named_if image (branch field part rest) at (bytes_equal name field.name) field part (branch_named name rest)
    (record { number = 0; there = refl; held = record { within = omega (arith, inside, fits); laid = laid.1 } })
    (named_later image at field part rest (branch_named name rest)
    (named_held image rest at long name laid.2 (λ k other found. each (suc k) other found) fits))

pub numbered_held : (image : Image) (from : Branches) (at long k : ℕ) → AreLaidBranches image.pointer from
    → AreWithin image.pointer long (fields_of from) → at + long ≤ length image.bytes
    → IsNamed image from at (branch_at from k)
numbered_held image no_fields at long k laid each fits = tt
numbered_held image (branch field part rest) at long zero laid each fits =
    let inside = each 0 field refl in
    record { number = 0; there = refl; held = record { within = omega (arith, inside, fits); laid = laid.1 } }
numbered_held image (branch field part rest) at long (suc k) laid each fits =
    named_later image at field part rest (branch_at rest k)
    (numbered_held image rest at long k laid.2 (λ i other found. each (suc i) other found) fits)

pub partner_held : (image : Image) (from : Branches) (at : ℕ) (name : List ℕ) → IsInside image from at
    → IsNamed image from at (branch_named name from)
partner_held image from at name inside = named_held image from at inside.long name inside.laid inside.each inside.fits

-- ---- numbers

single_there : (image : Image) (at : ℕ) (field : Field) (kind : Kind) → field.shape ≡ One → IsHeld image at field (number_part kind)
    → (at + field.offset + field.size ≤ length image.bytes) × IsTrue (is_size_of kind field.size)
single_there image at field kind is held =
    let whole : extent image.pointer field ≡ field.size = ap (λ (shape : Shape). shape_extent image.pointer shape field.size) is in
    (omega (arith, held.within, whole), held.laid)

single_shape : (shape : Shape) → same_shape (is_array shape) false ≡ true → shape ≡ One
single_shape One same = refl
single_shape (Fixed n) same = cc
single_shape (Counted c) same = cc

-- a single number's partner
pub origin_there : (image : Image) (from : Branches) (at : ℕ) (field : Field) (kind : Kind) (found : Option (Field × Part)) → field.shape ≡ One
    → IsNamed image from at found
    → clash_partners found field (number_part kind) (λ sender_part. clash_parts sender_part (number_part kind)) ≡ None
    → IsOriginThere image at (number_origin (known_of found) field.fallback)
origin_there image from at field kind None is held alike = tt
origin_there image from at field kind (Some (sender, number_part kind')) is held alike =
    let Alike : Shape → Type 0 = λ s. IsAlike sender.shape (number_part kind') s (number_part kind) in
    let same : IsAlike sender.shape (number_part kind') One (number_part kind) = subst Alike is
    (alike_with sender (number_part kind') field (number_part kind) alike) in
    single_there image at sender kind' (single_shape sender.shape (same.shapes)) held.held
origin_there image from at field kind (Some (sender, text_part)) is held alike = tt
origin_there image from at field kind (Some (sender, tree_part nested)) is held alike = tt

-- the number that a receiver's field gets
field_origin_there : (image : Image) (from : Branches) (at : ℕ) (field : Field) (shape : Shape) (part : Part) → field.shape ≡ shape
    → IsInside image from at → AreAlike from field part
    → IsOriginThere image at (single_origin (known_branches from) field shape (content_of part))
field_origin_there image from at field One (number_part kind) is inside alike =
    let There : Option (Field × Content) → Type 0 = λ known. IsOriginThere image at (number_origin known field.fallback) in
    subst There (sym (known_named-branches field.name from)) (origin_there image from at field kind (branch_named field.name from) is
    (partner_held image from at field.name inside) alike)
field_origin_there image from at field One text_part is inside alike = tt
field_origin_there image from at field One (tree_part nested) is inside alike = tt
field_origin_there image from at field (Fixed n) part is inside alike = tt
field_origin_there image from at field (Counted c) part is inside alike = tt

-- the number of elements that a receiver's counted array gets
pub wanted_there : (image : Image) (from : Branches) (at : ℕ) (found : Option (Field × Part)) → IsInside image from at
    → ((field : Field) (part : Part) → found ≡ Some (field, part) → AreAlike from field part)
    → IsOriginThere image at (wanted_origin (known_branches from) (known_of found))
wanted_there image from at None inside alike = tt
wanted_there image from at (Some (field, part)) inside alike = field_origin_there image from at field field.shape part refl inside
    (alike field part refl)

-- the number of elements of a sender's array
pub own_count_there : (image : Image) (at : ℕ) (found : Option (Field × Part))
    → ((field : Field) (part : Part) → found ≡ Some (field, part) → (field.shape ≡ One) × IsHeld image at field part)
    → IsOriginThere image at (number_origin (known_of found) (pos 0))
own_count_there image at None held = tt
own_count_there image at (Some (field, number_part kind)) held = let h = held field (number_part kind) refl in single_there image at field
    kind h.0 h.1
own_count_there image at (Some (field, text_part)) held = tt
own_count_there image at (Some (field, tree_part nested)) held = tt

pub field_of_branch : (branches : Branches) (k : ℕ) (field : Field) (part : Part) → branch_at branches k ≡ Some (field, part)
    → slice_get (fields_of branches) k ≡ Some field
field_of_branch no_fields k field part found = cc
field_of_branch (branch other part' rest) zero field part found =
    let same : (other, part') ≡ (field, part) = cc in ap (λ (b : Field × Part). Some b.0) same
field_of_branch (branch other part' rest) (suc k) field part found = field_of_branch rest k field part found
