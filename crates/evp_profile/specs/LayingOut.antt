-- The format of declared types by a profile, or the first fault: of the number of types, then type
-- by type; of a type its name, the number of its fields, each field, and what shows at its end.
use Rattle.std.specs.Prelude.{ℕ, pos, ◌&&◌, nat_le, if◌then◌else◌, List, [], ◌∷◌, ◌++◌, length, min}
use Rattle.std.specs.Prelude.{Result, Ok, Err}
use Rattle.evp_format.specs.declared.draft.DraftField.{DraftField}
use Rattle.evp_format.specs.declared.field.Base.{Base}
use Rattle.evp_format.specs.declared.field.Base.TheVariants.{Number, Text, Nested}
use Rattle.evp_format.specs.declared.layout_fault.LayoutFault.{LayoutFault}
use Rattle.evp_format.specs.declared.layout_fault.LayoutFault.TheVariants.{Limit}
use Rattle.evp_format.specs.declared.layout_fault.Which.TheVariants.{Types, Length}
use Rattle.evp_format.specs.declared.record_type.RecordType.{RecordType}
use Rattle.evp_format.specs.Drafts.{nested_length, draft_of}
use Rattle.evp_format.specs.Layout.{Layout, layout_with}
use Rattle.evp_format.specs.Parts.{new_type_name, new_field_count, new_field_name, allowed_size}
use Rattle.evp_format.specs.Parts.{allowed_default, ended_type}
use Rattle.evp_format.specs.Steps.{◌>>=◌}
use Rattle.evp_format.specs.Tree.{trees}
use Rattle.evp_format.specs.TypeText.{type_text_of}
use Rattle.evp_format.specs.WellLaid.{all_fields}
use Rattle.evp_profile.specs.declared.profile.Profile.{Profile}
use Rattle.evp_profile.specs.Declarations.{DeclaredField, DeclaredType}
use Rattle.evp_profile.specs.Placing.{placed_type}
use Rattle.evp_profile.specs.Profile.{byte_order, pointer_size}

-- ---- a field

-- a string's size is the pointer's, a record's is its type's length, whatever is declared
abbrev pub size_meant : ℕ → List RecordType → Base → ℕ → ℕ
size_meant pointer earlier (Number kind) size = size
size_meant pointer earlier Text size = pointer
size_meant pointer earlier (Nested k) size = nested_length earlier k

-- a field of the type behind `earlier`, behind the fields `before`; where it stands is settled at
-- the type's end
unfoldable pub stated_field : ℕ → List RecordType → List DraftField → DeclaredField
    → Result DraftField LayoutFault
stated_field pointer earlier before declared = do
  name ← new_field_name (length earlier) before declared.name
  said ← type_text_of earlier (length earlier) (length before) declared.type_text
  size ← allowed_size pointer earlier (length before) said.0
      (size_meant pointer earlier said.0 declared.size)
  fallback ← allowed_default (length earlier) (length before)
      (draft_of name said size 0 (pos 0)) declared.fallback
  Ok (draft_of name said size 0 fallback)

-- these fields, behind the fields `before`
unfoldable pub stated_fields : ℕ → List RecordType → List DraftField → List DeclaredField
    → Result (List DraftField) LayoutFault
stated_fields pointer earlier before [] = Ok before
stated_fields pointer earlier before (declared ∷ rest) = do
  field ← stated_field pointer earlier before declared
  stated_fields pointer earlier (before ++ field ∷ []) rest

-- ---- a type

-- a length of at most 65,536; one that passes 2^32 - 1 is reported as that
unfoldable pub within_length : RecordType → Result RecordType LayoutFault
within_length type =
    if nat_le type.length 65536 then Ok type else Err (Limit Length (min type.length 4294967295))

-- a type behind these; where its fields stand is settled once nothing else is refused
unfoldable pub laid_type : Profile → List RecordType → DeclaredType → Result RecordType LayoutFault
laid_type profile earlier declared = do
  name ← new_type_name earlier declared.name
  count ← new_field_count (all_fields earlier) (length declared.fields)
  drafts ← stated_fields (pointer_size profile) earlier [] declared.fields
  type ← ended_type earlier name 0 drafts
  within_length (placed_type profile (trees earlier) type)

-- these types, behind the types `earlier`
unfoldable pub laid_types : Profile → List RecordType → List DeclaredType
    → Result (List RecordType) LayoutFault
laid_types profile earlier [] = Ok earlier
laid_types profile earlier (declared ∷ rest) = do
  type ← laid_type profile earlier declared
  laid_types profile (earlier ++ type ∷ []) rest

-- ---- a format

-- a number of types from 1 to 64
unfoldable pub type_count : ℕ → Result ℕ LayoutFault
type_count count = if nat_le 1 count && nat_le count 64 then Ok count else Err (Limit Types count)

-- the format of the declared types by the profile, or the first fault
unfoldable pub by_profile : Profile → List DeclaredType → Result Layout LayoutFault
by_profile profile declared = do
  count ← type_count (length declared)
  types ← laid_types profile [] declared
  Ok (layout_with (byte_order profile) (pointer_size profile) types)
