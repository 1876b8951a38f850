-- The first fault of a description, from left to right: each part is read and tested before the
-- next. A part that is cut is a fault at the offset of its first byte. What is read is a value and
-- the offset behind it.
use Rattle.std.specs.Prelude.{ℕ, zero, suc, ◌+◌, ℤ, pos, Bool, true, false, not, ◌&&◌, nat_eq}
use Rattle.std.specs.Prelude.{nat_le, nat_lt, if◌then◌else◌, List, [], ◌∷◌, ◌++◌, length, take}
use Rattle.std.specs.Prelude.{Option, Result, Ok, Err, codes}
use Rattle.evp_base.specs.declared.order.Order.{Order}
use Rattle.evp_base.specs.declared.order.Order.TheVariants.{Little, Big}
use Rattle.evp_base.specs.Numbers.{magnitude, twos_complement}
use Rattle.evp_format.specs.declared.draft.DraftField.{DraftField}
use Rattle.evp_format.specs.declared.draft.DraftShape.{DraftShape}
use Rattle.evp_format.specs.declared.field.Base.{Base}
use Rattle.evp_format.specs.declared.layout_fault.LayoutFault.{LayoutFault}
use Rattle.evp_format.specs.declared.layout_fault.LayoutFault.TheVariants.{Short, Magic, ByteOrder}
use Rattle.evp_format.specs.declared.layout_fault.LayoutFault.TheVariants.{Pointer, Trailing}
use Rattle.evp_format.specs.declared.layout_fault.LayoutFault.TheVariants.{Outside, Limit}
use Rattle.evp_format.specs.declared.layout_fault.LayoutFault.TheVariants.{Plain as PlainFault}
use Rattle.evp_format.specs.declared.layout_fault.Which.TheVariants.{Types, Length}
use Rattle.evp_format.specs.declared.record_type.RecordType.{RecordType}
use Rattle.evp_format.specs.Bytes.{bytes_at, bytes_equal}
use Rattle.evp_format.specs.Describing.{states_default}
use Rattle.evp_format.specs.Drafts.{draft_extent, draft_of, without_overlap}
use Rattle.evp_format.specs.Layout.{Layout, layout_with}
use Rattle.evp_format.specs.Parts.{new_type_name, new_field_count, new_field_name, allowed_size}
use Rattle.evp_format.specs.Parts.{allowed_default, ended_type}
use Rattle.evp_format.specs.Steps.{◌>>=◌, tested, fault_of}
use Rattle.evp_format.specs.TypeText.{type_text_of}
use Rattle.evp_format.specs.WellLaid.{all_fields}

-- ---- parts

-- an unsigned number of `size` bytes
unfoldable pub number_at : ℕ → List ℕ → ℕ → Result (ℕ × ℕ) LayoutFault
number_at size bytes at = if nat_lt (length bytes) (at + size) then Err (Short at)
    else Ok (magnitude Big (bytes_at at size bytes), at + size)

-- a number of 16 bytes in two's complement
unfoldable pub signed_at : List ℕ → ℕ → Result (ℤ × ℕ) LayoutFault
signed_at bytes at = if nat_lt (length bytes) (at + 16) then Err (Short at)
    else Ok (twos_complement 16 (magnitude Big (bytes_at at 16 bytes)), at + 16)

-- the bytes behind a length byte: one part with it
unfoldable pub text_behind : List ℕ → ℕ → ℕ → Result (List ℕ × ℕ) LayoutFault
text_behind bytes at size = if nat_lt (length bytes) (at + 1 + size) then Err (Short at)
    else Ok (bytes_at (at + 1) size bytes, at + 1 + size)

unfoldable pub text_at : List ℕ → ℕ → Result (List ℕ × ℕ) LayoutFault
text_at bytes at = do
  size ← number_at 1 bytes at
  text_behind bytes at size.0

-- ---- a field

-- a name, and that no earlier field of the type has it
unfoldable pub field_name_at : ℕ → List DraftField → List ℕ → ℕ → Result (List ℕ × ℕ) LayoutFault
field_name_at type before bytes at = tested (text_at bytes at) (new_field_name type before)

-- a type text: what it says
unfoldable pub field_type_at : List RecordType → ℕ → List ℕ → ℕ
    → Result ((Base × DraftShape) × ℕ) LayoutFault
field_type_at earlier field bytes at =
    tested (text_at bytes at) (type_text_of earlier (length earlier) field)

-- a size that the base may have
unfoldable pub field_size_at : ℕ → List RecordType → ℕ → Base → List ℕ → ℕ
    → Result (ℕ × ℕ) LayoutFault
field_size_at pointer earlier field base bytes at =
    tested (number_at 4 bytes at) (allowed_size pointer earlier field base)

-- an offset from which the extent ends within the type's length
unfoldable pub field_offset_at : ℕ → ℕ → ℕ → ℕ → List ℕ → ℕ → Result (ℕ × ℕ) LayoutFault
field_offset_at type field taken room bytes at = do
  offset ← number_at 4 bytes at
  if nat_le (offset.0 + taken) room then Ok offset else Err (Outside type field)

-- a default that the field may have, where defaults are stated, else 0
unfoldable pub default_at : Bool → ℕ → DraftField → ℕ → List ℕ → ℕ → Result (ℤ × ℕ) LayoutFault
default_at false type field number bytes at = Ok (pos 0, at)
default_at true type field number bytes at =
    tested (signed_at bytes at) (allowed_default type number field)

-- a field of the type behind `earlier` that has `room` bytes, behind the fields `before`
unfoldable pub field_at : Bool → ℕ → List RecordType → ℕ → List DraftField → List ℕ → ℕ
    → Result (DraftField × ℕ) LayoutFault
field_at stated pointer earlier room before bytes at = do
  name ← field_name_at (length earlier) before bytes at
  said ← field_type_at earlier (length before) bytes name.1
  size ← field_size_at pointer earlier (length before) said.0.0 bytes said.1
  offset ← field_offset_at (length earlier) (length before) (draft_extent pointer said.0.1 size.0)
      room bytes size.1
  fallback ← default_at stated (length earlier) (draft_of name.0 said.0 size.0 offset.0 (pos 0))
      (length before) bytes offset.1
  Ok (draft_of name.0 said.0 size.0 offset.0 fallback.0, fallback.1)

-- so many more fields
unfoldable pub fields_at : ℕ → Bool → ℕ → List RecordType → ℕ → List DraftField → List ℕ → ℕ
    → Result (List DraftField × ℕ) LayoutFault
fields_at zero stated pointer earlier room before bytes at = Ok (before, at)
fields_at (suc count) stated pointer earlier room before bytes at = do
  field ← field_at stated pointer earlier room before bytes at
  fields_at count stated pointer earlier room (before ++ field.0 ∷ []) bytes field.1

-- ---- a type

-- a name that isn't reserved and that no earlier type has
unfoldable pub type_name_at : List RecordType → List ℕ → ℕ → Result (List ℕ × ℕ) LayoutFault
type_name_at earlier bytes at = tested (text_at bytes at) (new_type_name earlier)

-- a length of 1 to 65,536
unfoldable pub type_length_at : List ℕ → ℕ → Result (ℕ × ℕ) LayoutFault
type_length_at bytes at = do
  room ← number_at 4 bytes at
  if nat_le 1 room.0 && nat_le room.0 65536 then Ok room else Err (Limit Length room.0)

-- a number of fields from 1 to 1,024, with which all types have at most 4,096
unfoldable pub field_count_at : ℕ → List ℕ → ℕ → Result (ℕ × ℕ) LayoutFault
field_count_at so_far bytes at = tested (number_at 2 bytes at) (new_field_count so_far)

-- what is tested where a type ends: its count fields, their defaults, the nesting, the overlaps
unfoldable pub whole_type : ℕ → List RecordType → List ℕ → ℕ → List DraftField
    → Result RecordType LayoutFault
whole_type pointer earlier name room drafts = ended_type earlier name room drafts
    >>= without_overlap pointer (length earlier)

-- a type behind these
unfoldable pub type_at : Bool → ℕ → List RecordType → List ℕ → ℕ
    → Result (RecordType × ℕ) LayoutFault
type_at stated pointer earlier bytes at = do
  name ← type_name_at earlier bytes at
  room ← type_length_at bytes name.1
  count ← field_count_at (all_fields earlier) bytes room.1
  fields ← fields_at count.0 stated pointer earlier room.0 [] bytes count.1
  type ← whole_type pointer earlier name.0 room.0 fields.0
  Ok (type, fields.1)

-- so many more types
unfoldable pub types_at : ℕ → Bool → ℕ → List RecordType → List ℕ → ℕ
    → Result (List RecordType × ℕ) LayoutFault
types_at zero stated pointer earlier bytes at = Ok (earlier, at)
types_at (suc count) stated pointer earlier bytes at = do
  type ← type_at stated pointer earlier bytes at
  types_at count stated pointer (earlier ++ type.0 ∷ []) bytes type.1

-- ---- a format

-- whether defaults are stated
unfoldable pub magic_at : List ℕ → Result (Bool × ℕ) LayoutFault
magic_at bytes =
    if nat_lt (length bytes) 4 then Err (Short 0)
    else (if bytes_equal (take 4 bytes) (codes "NDF1") then Ok (false, 4)
    else (if bytes_equal (take 4 bytes) (codes "NDF2") then Ok (true, 4) else Err Magic))

unfoldable pub order_at : List ℕ → ℕ → Result (Order × ℕ) LayoutFault
order_at bytes at = do
  order ← number_at 1 bytes at
  if nat_eq order.0 0 then Ok (Little, order.1) else
      (if nat_eq order.0 1 then Ok (Big, order.1) else Err ByteOrder)

unfoldable pub pointer_at : List ℕ → ℕ → Result (ℕ × ℕ) LayoutFault
pointer_at bytes at = do
  pointer ← number_at 1 bytes at
  if nat_eq pointer.0 4 then Ok pointer else
      (if nat_eq pointer.0 8 then Ok pointer else Err Pointer)

-- a number of types from 1 to 64
unfoldable pub type_count_at : List ℕ → ℕ → Result (ℕ × ℕ) LayoutFault
type_count_at bytes at = do
  count ← number_at 2 bytes at
  if nat_le 1 count.0 && nat_le count.0 64 then Ok count else Err (Limit Types count.0)

-- where defaults are stated, some default isn't 0
unfoldable pub with_default : Bool → Layout → ℕ → Result (Layout × ℕ) LayoutFault
with_default stated layout at = if stated && not (states_default layout) then Err PlainFault
    else Ok (layout, at)

-- the format that is described at the front, and the offset behind its last field
unfoldable pub layout_at : List ℕ → Result (Layout × ℕ) LayoutFault
layout_at bytes = do
  stated ← magic_at bytes
  order ← order_at bytes stated.1
  pointer ← pointer_at bytes order.1
  count ← type_count_at bytes pointer.1
  types ← types_at count.0 stated.0 pointer.0 [] bytes count.1
  with_default stated.0 (layout_with order.0 pointer.0 types.0) types.1

-- the format that the bytes describe, all of them, or the first fault
unfoldable pub layout_of : List ℕ → Result Layout LayoutFault
layout_of bytes = do
  layout ← layout_at bytes
  if nat_lt layout.1 (length bytes) then Err (Trailing layout.1) else Ok layout.0

-- the first fault, or none where the bytes describe a format
abbrev pub layout_fault : List ℕ → Option LayoutFault
layout_fault bytes = fault_of (layout_of bytes)
