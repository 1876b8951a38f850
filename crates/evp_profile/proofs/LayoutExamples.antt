-- The definition computed on declared types whose layouts C compilers of four machines make.
use Rattle.std.proofs.Common.{◌≡◌, ℕ, pos, refl, List, [], ◌∷◌, codes, Option, Some, None, Result, Ok, Err, map}
use Rattle.std.specs.Fmt.{digits}
use Rattle.evp_format.specs.declared.field.Field.{Field}
use Rattle.evp_format.specs.declared.layout_fault.LayoutFault.{LayoutFault}
use Rattle.evp_format.specs.declared.layout_fault.LayoutFault.TheVariants as fault
use Rattle.evp_format.specs.declared.layout_fault.Which.TheVariants as which
use Rattle.evp_format.specs.declared.record_type.RecordType.{RecordType}
use Rattle.evp_format.specs.Drafts.{shape_in, counted_fields, without_count_default, within_nesting}
use Rattle.evp_format.specs.Layout.{Layout}
use Rattle.evp_format.specs.Parts.{new_type_name, new_field_count, new_field_name, allowed_size, allowed_default, ended_type}
use Rattle.evp_format.specs.TypeText.{word_of, fixed_of, inside_of, shape_of, base_of, type_text_of}
use Rattle.evp_profile.specs.declared.profile.Profile.TheVariants.{Le64, Le32, Be32}
use Rattle.evp_profile.specs.Declarations.{DeclaredField, DeclaredType}
use Rattle.evp_profile.specs.LayingOut.{stated_field, stated_fields, within_length, laid_type, laid_types, type_count, by_profile}

abbrev declared_with : List ℕ → List ℕ → ℕ → ℕ → DeclaredField
declared_with name text size fallback = record { name = name; type_text = text; size = size; fallback = pos fallback }

-- a type `p` with a char `c` and an integer `v` of 8 bytes
abbrev char_and_wide : List DeclaredType
char_and_wide = record {
  name = codes "p";
  fields = declared_with (codes "c") (codes "char") 1 0
      ∷ declared_with (codes "v") (codes "integer") 8 0 ∷ [];
} ∷ []

-- the offsets of the last type's fields, and its length
abbrev offsets_of : List RecordType → Option (List ℕ × ℕ)
offsets_of [] = None
offsets_of (type ∷ []) = Some (map (λ (field : Field). field.offset) type.fields, type.length)
offsets_of (type ∷ types) = offsets_of types

abbrev placed : Result Layout LayoutFault → Option (List ℕ × ℕ)
placed (Ok layout) = offsets_of layout.types
placed (Err fault) = None

abbrev fault_in : Result Layout LayoutFault → Option LayoutFault
fault_in (Ok layout) = None
fault_in (Err fault) = Some fault

wide_on_le64 : placed (by_profile Le64 char_and_wide) ≡ Some (0 ∷ 8 ∷ [], 16)
unfolding digits word_of fixed_of inside_of shape_of base_of type_text_of shape_in counted_fields without_count_default within_nesting
    new_type_name new_field_count new_field_name allowed_size allowed_default ended_type stated_field stated_fields within_length laid_type
    laid_types type_count by_profile
wide_on_le64 = refl

wide_on_le32 : placed (by_profile Le32 char_and_wide) ≡ Some (0 ∷ 4 ∷ [], 12)
unfolding digits word_of fixed_of inside_of shape_of base_of type_text_of shape_in counted_fields without_count_default within_nesting
    new_type_name new_field_count new_field_name allowed_size allowed_default ended_type stated_field stated_fields within_length laid_type
    laid_types type_count by_profile
wide_on_le32 = refl

wide_on_be32 : placed (by_profile Be32 char_and_wide) ≡ Some (0 ∷ 8 ∷ [], 16)
unfolding digits word_of fixed_of inside_of shape_of base_of type_text_of shape_in counted_fields without_count_default within_nesting
    new_type_name new_field_count new_field_name allowed_size allowed_default ended_type stated_field stated_fields within_length laid_type
    laid_types type_count by_profile
wide_on_be32 = refl

-- a type `e` of an integer of 2 bytes and one of 8, and `r` with a char, 3 of `e`, and a string
abbrev nested_types : List DeclaredType
nested_types =
    record {
      name = codes "e";
      fields = declared_with (codes "a") (codes "integer") 2 0 ∷ declared_with (codes "b") (codes "integer") 8 0
          ∷ [];
    }
    ∷ record {
      name = codes "r";
      fields = declared_with (codes "c") (codes "char") 1 0 ∷ declared_with (codes "e") (codes "e[3]") 0 0
          ∷ declared_with (codes "s") (codes "string") 0 0 ∷ [];
    }
    ∷ []

nested_on_le64 : placed (by_profile Le64 nested_types) ≡ Some (0 ∷ 8 ∷ 56 ∷ [], 64)
unfolding digits word_of fixed_of inside_of shape_of base_of type_text_of shape_in counted_fields without_count_default within_nesting
    new_type_name new_field_count new_field_name allowed_size allowed_default ended_type stated_field stated_fields within_length laid_type
    laid_types type_count by_profile
nested_on_le64 = refl

nested_on_le32 : placed (by_profile Le32 nested_types) ≡ Some (0 ∷ 4 ∷ 40 ∷ [], 44)
unfolding digits word_of fixed_of inside_of shape_of base_of type_text_of shape_in counted_fields without_count_default within_nesting
    new_type_name new_field_count new_field_name allowed_size allowed_default ended_type stated_field stated_fields within_length laid_type
    laid_types type_count by_profile
nested_on_le32 = refl

nested_on_be32 : placed (by_profile Be32 nested_types) ≡ Some (0 ∷ 8 ∷ 56 ∷ [], 64)
unfolding digits word_of fixed_of inside_of shape_of base_of type_text_of shape_in counted_fields without_count_default within_nesting
    new_type_name new_field_count new_field_name allowed_size allowed_default ended_type stated_field stated_fields within_length laid_type
    laid_types type_count by_profile
nested_on_be32 = refl

abbrev one_field : List ℕ → ℕ → ℕ → List DeclaredType
one_field text size fallback = record { name = codes "p"; fields = declared_with (codes "s") text size fallback ∷ [] } ∷ []

string_has_no_default : fault_in (by_profile Le32 (one_field (codes "string") 0 1)) ≡ Some (fault.Default 0 0)
unfolding digits word_of fixed_of inside_of shape_of base_of type_text_of shape_in counted_fields without_count_default within_nesting
    new_type_name new_field_count new_field_name allowed_size allowed_default ended_type stated_field stated_fields within_length laid_type
    laid_types type_count by_profile
string_has_no_default = refl

long_is_refused : fault_in (by_profile Le32 (one_field (codes "integer[16385]") 4 0)) ≡ Some (fault.Limit which.Length 65540)
unfolding digits word_of fixed_of inside_of shape_of base_of type_text_of shape_in counted_fields without_count_default within_nesting
    new_type_name new_field_count new_field_name allowed_size allowed_default ended_type stated_field stated_fields within_length laid_type
    laid_types type_count by_profile
long_is_refused = refl

no_types_are_refused : fault_in (by_profile Le64 []) ≡ Some (fault.Limit which.Types 0)
unfolding type_count by_profile
no_types_are_refused = refl
