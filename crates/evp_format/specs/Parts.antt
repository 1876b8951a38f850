-- The parts of a declared type, each tested as it comes: a value, or the fault that shows there.
-- The types so far are `earlier`, so the type has the number `length earlier`; the fields of the
-- type so far are `before`.
use Rattle.std.specs.Prelude.{ℕ, ◌+◌, ℤ, ◌&&◌, nat_le, if◌then◌else◌, List, length, Some, None}
use Rattle.std.specs.Prelude.{Result, Ok, Err}
use Rattle.evp_base.specs.Name.{is_name}
use Rattle.evp_format.specs.declared.draft.DraftField.{DraftField}
use Rattle.evp_format.specs.declared.field.Base.{Base}
use Rattle.evp_format.specs.declared.layout_fault.LayoutFault.{LayoutFault}
use Rattle.evp_format.specs.declared.layout_fault.LayoutFault.TheVariants.{BadName, Twice, Size}
use Rattle.evp_format.specs.declared.layout_fault.LayoutFault.TheVariants.{Limit, TypeTwice}
use Rattle.evp_format.specs.declared.layout_fault.LayoutFault.TheVariants.{Default}
use Rattle.evp_format.specs.declared.layout_fault.Which.TheVariants.{Fields, AllFields}
use Rattle.evp_format.specs.declared.record_type.RecordType.{RecordType}
use Rattle.evp_format.specs.Drafts.{has_field, has_type, is_base_size, may_default, counted_fields}
use Rattle.evp_format.specs.Drafts.{type_of, without_count_default, within_nesting}
use Rattle.evp_format.specs.Steps.{◌>>=◌}
use Rattle.evp_format.specs.WellLaid.{is_type_name}

-- a name that isn't reserved and that no earlier type has
unfoldable pub new_type_name : List RecordType → List ℕ → Result (List ℕ) LayoutFault
new_type_name earlier text =
    if is_type_name text
    then (if has_type earlier text then Err (TypeTwice (length earlier)) else Ok text)
    else Err (BadName (length earlier) None)

-- a number of fields from 1 to 1,024, with which all types have at most 4,096; those so far have
-- `so_far`
unfoldable pub new_field_count : ℕ → ℕ → Result ℕ LayoutFault
new_field_count so_far count =
    if nat_le 1 count && nat_le count 1024
    then (if nat_le (so_far + count) 4096 then Ok count else Err (Limit AllFields (so_far + count)))
    else Err (Limit Fields count)

-- a name that no earlier field of the type has
unfoldable pub new_field_name : ℕ → List DraftField → List ℕ → Result (List ℕ) LayoutFault
new_field_name type before text =
    if is_name text
    then (if has_field before text then Err (Twice type (length before)) else Ok text)
    else Err (BadName type (Some (length before)))

-- a size that the base of field `field` may have
unfoldable pub allowed_size : ℕ → List RecordType → ℕ → Base → ℕ → Result ℕ LayoutFault
allowed_size pointer earlier field base size =
    if is_base_size pointer earlier base size then Ok size else Err (Size (length earlier) field)

-- a default that this field, of that number, may have
unfoldable pub allowed_default : ℕ → ℕ → DraftField → ℤ → Result ℤ LayoutFault
allowed_default type number field fallback =
    if may_default field.base field.shape field.size fallback then Ok fallback
    else Err (Default type number)

-- the type of these fields, or what shows where it ends: its count fields, their defaults, the
-- nesting
unfoldable pub ended_type : List RecordType → List ℕ → ℕ → List DraftField
    → Result RecordType LayoutFault
ended_type earlier name room drafts = do
  fields ← counted_fields (length earlier) 0 drafts drafts
  counted ← without_count_default (length earlier) (type_of name room fields)
  within_nesting earlier counted
