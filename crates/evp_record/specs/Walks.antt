-- The walk of the parts of a record, as a view makes it.
use Rattle.std.specs.Prelude.{◌≡◌, ℕ, ◌+◌, ◌*◌, ℤ, Bool, true, false, not, List, [], ◌∷◌, ◌++◌}
use Rattle.std.specs.Prelude.{Some}
use Rattle.evp_format.specs.declared.field.Base.{Base}
use Rattle.evp_format.specs.declared.field.Base.TheVariants.{Number, Text, Nested}
use Rattle.evp_format.specs.declared.field.Field.{Field}
use Rattle.evp_format.specs.declared.field.Shape.TheVariants.{One, Counted}
use Rattle.evp_format.specs.declared.place.PlaceStep.{PlaceStep}
use Rattle.evp_format.specs.declared.place.PlaceStep.TheVariants.{Nth}
use Rattle.evp_format.specs.Datum.{Datum, Elements}
use Rattle.evp_format.specs.Layout.{Layout}
use Rattle.evp_format.specs.Leads.{is_led, leads_of}
use Rattle.evp_format.specs.Tree.{Tree, tree, Branches, tree_of, branch_at}
pub use Rattle.evp_format.specs.Tree.{part_in}
use Rattle.evp_format.specs.Viewing.{Walked, view_tree, view_string, view_part, view_shaped}
use Rattle.evp_format.specs.Viewing.{view_elements, view_counted, image_of, pointer_at}
use Rattle.evp_format.specs.Viewing.{field_number}
use Rattle.evp_format.specs.WellLaid.{CountsElements}
use Rattle.evp_record.specs.Class.{field_at}
use Rattle.evp_record.specs.declared.spot.Spot.{Spot}

abbrev pub branches_in : Tree → Branches
branches_in (tree length branches) = branches

-- the fields of the type of this number, each with what it or each of its elements is
abbrev pub all_branches : Layout → ℕ → Branches
all_branches layout type_number = branches_in (tree_of layout type_number)

-- the record at the spot
abbrev pub walk_record : Layout → List ℕ → Spot → List PlaceStep → ℕ → Walked Datum
walk_record layout bytes spot place mark = view_tree (image_of layout bytes)
    (tree_of layout spot.type_number) spot.at place mark

-- the string whose pointer stands at `at`
abbrev pub walk_text : Layout → List ℕ → ℕ → List PlaceStep → ℕ → Walked Datum
walk_text layout bytes at place mark = view_string (image_of layout bytes) place mark
    (pointer_at (image_of layout bytes) at)

-- the part of a field that stands at `at`
abbrev pub walk_part : Layout → List ℕ → Field → ℕ → List PlaceStep → ℕ → Walked Datum
walk_part layout bytes field at place mark = view_part (image_of layout bytes)
    (part_in layout field) field.size at place mark

-- n elements from number k on, of which the first of all stands at `from`
abbrev pub walk_elements : Layout → List ℕ → Field → ℕ → List PlaceStep → ℕ → ℕ → ℕ
    → Walked Elements
walk_elements layout bytes field from place n k mark =
    view_elements (λ k after. walk_part layout bytes field (from + k * field.size)
    (place ++ Nth k ∷ []) after) n k mark

-- a field of the record at the spot
abbrev pub walk_field : Layout → List ℕ → Spot → Field → List PlaceStep → ℕ → Walked Datum
walk_field layout bytes spot field place mark =
    view_shaped (image_of layout bytes) (all_branches layout spot.type_number) field field.shape
    spot.at place (λ offset place' after. walk_part layout bytes field offset place' after) mark

-- the number of the count of an array of the record at the spot
abbrev pub count_number : Layout → List ℕ → Spot → ℕ → ℤ
count_number layout bytes spot count = field_number (image_of layout bytes) spot.at
    (branch_at (all_branches layout spot.type_number) count)

-- a counted array of the record at the spot
abbrev pub walk_counted : Layout → List ℕ → Spot → Field → ℕ → List PlaceStep → ℕ → Walked Datum
walk_counted layout bytes spot field count place mark =
    view_counted (image_of layout bytes) place (count_number layout bytes spot count)
    (pointer_at (image_of layout bytes) (spot.at + field.offset)) field.size
    (λ offset k after. walk_part layout bytes field offset (place ++ Nth k ∷ []) after) mark

-- no element of this base has a pointer
abbrev pub is_plain : Layout → Base → Bool
is_plain layout (Number kind) = true
is_plain layout Text = false
is_plain layout (Nested type_number) = not (is_led (leads_of layout type_number))

-- the field of that type is a single number that may count elements
pub record IsCountAt (layout : Layout) (type_number count : ℕ) : Type 0 where
  pub field : Field
  pub there : field_at layout type_number count ≡ Some field
  pub single : field.shape ≡ One
  pub counts : CountsElements field.base

-- the field is a counted array of that type, with this count
pub record IsCountedAt (layout : Layout) (type_number : ℕ) (field : Field) (count : ℕ) : Type 0
  where
    pub number : ℕ
    pub there : field_at layout type_number number ≡ Some field
    pub counted : field.shape ≡ Counted count
