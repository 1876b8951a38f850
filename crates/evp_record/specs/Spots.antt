-- Records inside a record.
use Rattle.std.specs.Prelude.{ℕ, ◌+◌, ◌-◌, ◌<◌, ◌≤◌, [], length, IsOk, Option, Result}
use Rattle.evp_format.specs.declared.broken.Broken.{Broken}
use Rattle.evp_format.specs.declared.field.Field.{Field}
use Rattle.evp_format.specs.declared.field.Shape.{Shape}
use Rattle.evp_format.specs.declared.field.Shape.TheVariants.{One, Fixed, Counted}
use Rattle.evp_format.specs.Datum.{Datum}
use Rattle.evp_format.specs.Layout.{Layout}
use Rattle.evp_format.specs.Tree.{tree_of, length_of}
use Rattle.evp_format.specs.Viewing.{Walked, view_tree, viewed, image_of, pointer_at}
use Rattle.evp_format.specs.WellLaid.{HasBaseSize}
use Rattle.evp_record.specs.declared.spot.Spot.{Spot}
use Rattle.evp_record.specs.Parts.{field_value, element_value}
use Rattle.evp_record.specs.Walks.{walk_part}
use Rattle.evp_record.specs.Record.{Record, value_or_null}

-- a walk of the record that stands there, on its own
abbrev pub walk_at : Record → Spot → Walked Datum
walk_at held spot = view_tree (image_of held.layout held.bytes)
    (tree_of held.layout spot.type_number) spot.at [] 0

-- a record of that type stands there: its fixed part is inside the bytes, and a walk from there
-- meets no fault
pub record IsReached (held : Record) (spot : Spot) : Type 0 where
  pub type_there : spot.type_number < length held.layout.types
  pub inside : spot.at + length_of (tree_of held.layout spot.type_number) ≤ length held.bytes
  pub walked : IsOk (viewed (walk_at held spot))

-- the value of the record that stands there
abbrev pub value_at : Record → Spot → Datum
value_at held spot = value_or_null (viewed (walk_at held spot))

-- the value of the field of this number of the record that stands there
abbrev pub part_at : Record → Spot → ℕ → Option Datum
part_at held spot field = field_value (value_at held spot) field

-- the element of that list
abbrev pub element_at : Record → Spot → ℕ → ℕ → Option Datum
element_at held spot field k = element_value (part_at held spot field) k

-- the part of a field that stands at `at`, or an element of its array, walked on its own
abbrev pub part_value : Record → Field → ℕ → Result Datum Broken
part_value held field at = viewed (walk_part held.layout held.bytes field at [] 0)

-- such a part stands there: it is inside the bytes, and a walk of it meets no fault
pub record IsPartAt (held : Record) (field : Field) (at : ℕ) : Type 0 where
  pub sized : HasBaseSize held.layout.pointer held.layout.types field.base field.size
  pub inside : at + field.size ≤ length held.bytes
  pub walked : IsOk (part_value held field at)

-- its value
abbrev pub value_there : Record → Field → ℕ → Datum
value_there held field at = value_or_null (part_value held field at)

-- where the elements of an array begin, by its shape: in the record, or where its pointer leads
abbrev pub start_by : Shape → ℕ → ℕ → ℕ
start_by One own pointer = own
start_by (Fixed n) own pointer = own
start_by (Counted c) own pointer = pointer

abbrev pub elements_start : Record → Spot → Field → ℕ
elements_start held spot field = start_by field.shape (spot.at + field.offset)
    (pointer_at (image_of held.layout held.bytes) (spot.at + field.offset))

-- the record itself
abbrev pub root_spot : Layout → Spot
root_spot layout = record { type_number = length layout.types - 1; at = 0 }
