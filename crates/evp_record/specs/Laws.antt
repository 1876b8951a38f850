-- The laws of views and packing, as statements.
use Rattle.std.specs.Prelude.{◌≡◌, ℕ, ◌+◌, ◌^◌, ◌<◌, List, All, Ok, Some}
use Rattle.evp_base.specs.declared.kind.Kind.{Kind}
use Rattle.evp_base.specs.Numbers.{number}
use Rattle.evp_format.specs.declared.field.Base.TheVariants.{Number}
use Rattle.evp_format.specs.declared.field.Field.{Field}
use Rattle.evp_format.specs.declared.field.Shape.TheVariants.{One}
use Rattle.evp_format.specs.Bytes.{bytes_at}
use Rattle.evp_format.specs.Class.{field_at}
use Rattle.evp_format.specs.Datum.{Datum, num}
use Rattle.evp_format.specs.Layout.{Layout}
use Rattle.evp_format.specs.Packing.{pack, packed_size}
use Rattle.evp_format.specs.Tree.{tree_of}
use Rattle.evp_format.specs.Typed.{IsOf, IsOfTree, IsRecordOf}
use Rattle.evp_format.specs.Viewing.{view}
use Rattle.evp_format.specs.WellLaid.{IsWellLaid}
use Rattle.evp_record.specs.declared.spot.Spot.{Spot}
use Rattle.evp_record.specs.Record.{Record}
use Rattle.evp_record.specs.Spots.{IsReached, part_at, value_at}

-- the packed record of a value of a well laid format has that value in its view
abbrev pub PackedIsViewed : Type 0
PackedIsViewed = (layout : Layout) (value : Datum) → IsWellLaid layout → IsOf layout value
    → packed_size layout value < 2 ^ 32 → view layout (pack layout value) ≡ Ok value

-- the value that bytes have in a well laid format is of that format
abbrev pub ViewedIsOfFormat : Type 0
ViewedIsOfFormat = (layout : Layout) (bytes : List ℕ) (value : Datum) → IsWellLaid layout
    → All (λ byte. byte < 256) bytes → view layout bytes ≡ Ok value → IsOf layout value

-- the value of a record inside bytes is of its type
abbrev pub ReachedIsOfType : Type 0
ReachedIsOfType =
    (held : Record) (spot : Spot) → IsWellLaid held.layout → All (λ byte. byte < 256) held.bytes
    → IsReached held spot
    → IsRecordOf (IsOfTree (tree_of held.layout spot.type_number)) (value_at held spot)

-- a single number field of a record inside bytes is the number of the bytes at the field's offset
abbrev pub NumberIsItsBytes : Type 0
NumberIsItsBytes =
    (held : Record) (spot : Spot) (index : ℕ) (field : Field) (kind : Kind) → IsWellLaid held.layout
    → IsReached held spot
    → field_at held.layout spot.type_number index ≡ Some field → field.shape ≡ One
    → field.base ≡ Number kind
    → part_at held spot index
    ≡ Some (num (number held.layout.order kind
    (bytes_at (spot.at + field.offset) field.size held.bytes)))
