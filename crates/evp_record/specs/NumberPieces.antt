-- The bytes of an array of numbers, and the range of a field's number.
use Rattle.std.specs.Prelude.{◌≡◌, ℕ, ◌*◌, ◌<◌, ℤ, List, length, Option, Some, None}
use Rattle.evp_base.specs.declared.kind.Kind.{Kind}
use Rattle.evp_base.specs.Numbers.{number}
use Rattle.evp_format.specs.declared.field.Base.TheVariants.{Number}
use Rattle.evp_format.specs.declared.field.Field.{Field}
use Rattle.evp_format.specs.Bytes.{bytes_at}
use Rattle.evp_format.specs.Class.{field_at}
use Rattle.evp_format.specs.Datum.{num}
use Rattle.evp_format.specs.WellLaid.{IsNumberIn}
use Rattle.evp_record.specs.declared.spot.Spot.{Spot}
use Rattle.evp_record.specs.Parts.{list_length}
use Rattle.evp_record.specs.Record.{Record}
use Rattle.evp_record.specs.Spots.{part_at, element_at}

-- a number in the range of the field that is there
abbrev pub IsInRangeOf : Option Field → ℤ → Type 0
IsInRangeOf None n = ⊥
IsInRangeOf (Some field) n = IsNumberIn field.base field.size n

-- element k of an array of numbers is the number of the k-th piece of these bytes, each of the
-- field's size
pub record ArePieces (held : Record) (spot : Spot) (index : ℕ) (bytes : List ℕ) : Type 0 where
  pub field : Field
  pub kind : Kind
  pub count : ℕ
  pub there : field_at held.layout spot.type_number index ≡ Some field
  pub is_number : field.base ≡ Number kind
  pub long : list_length (part_at held spot index) ≡ Some count
  pub whole : length bytes ≡ count * field.size
  pub each : (k : ℕ) → k < count → element_at held spot index k
      ≡ Some (num (number held.layout.order kind (bytes_at (k * field.size) field.size bytes)))
