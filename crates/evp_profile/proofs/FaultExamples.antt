-- The definition computed on declared types without a layout: each fault, and of two faults the first.
use Rattle.std.proofs.Common.{◌≡◌, ℕ, pos, refl, List, [], ◌∷◌, codes, Option, Some, None, Result, Ok, Err, map, replicate}
use Rattle.std.proofs.Common.{take}
use Rattle.std.specs.Fmt.{digits}
use Rattle.evp_base.specs.declared.kind.Kind.TheVariants.{Char}
use Rattle.evp_format.specs.declared.field.Base.TheVariants.{Number}
use Rattle.evp_format.specs.declared.field.Shape.TheVariants.{One}
use Rattle.evp_format.specs.declared.layout_fault.LayoutFault.{LayoutFault}
use Rattle.evp_format.specs.declared.layout_fault.LayoutFault.TheVariants as fault
use Rattle.evp_format.specs.declared.layout_fault.Which.TheVariants as which
use Rattle.evp_format.specs.declared.record_type.RecordType.{RecordType}
use Rattle.evp_format.specs.Drafts.{shape_in, counted_fields, without_count_default, within_nesting}
use Rattle.evp_format.specs.Parts.{new_type_name, new_field_count, new_field_name, allowed_size, allowed_default, ended_type}
use Rattle.evp_format.specs.TypeText.{word_of, fixed_of, inside_of, shape_of, base_of, type_text_of}
use Rattle.evp_profile.specs.declared.profile.Profile.TheVariants.{Le32, Be64}
use Rattle.evp_profile.specs.Declarations.{DeclaredField, DeclaredType}
use Rattle.evp_profile.specs.LayingOut.{stated_field, stated_fields, within_length, laid_type, laid_types, type_count, by_profile}

abbrev fault_in : {A : Type 0} → Result A LayoutFault → Option LayoutFault
fault_in (Ok x) = None
fault_in (Err fault) = Some fault

abbrev field : List ℕ → List ℕ → ℕ → ℕ → DeclaredField
field name text size fallback = record { name = name; type_text = text; size = size; fallback = pos fallback }

abbrev type : List ℕ → List DeclaredField → DeclaredType
type name fields = record { name = name; fields = fields }

-- an integer `x` of four bytes, and a type `e` of one `a`
abbrev x : DeclaredField
x = field (codes "x") (codes "integer") 4 0

abbrev e : DeclaredType
e = type (codes "e") (field (codes "a") (codes "integer") 4 0 ∷ [])

-- the faults of these lists of types, on le32
abbrev faults : List (List DeclaredType) → List (Option LayoutFault)
faults rows = map (λ (row : List DeclaredType). fault_in (by_profile Le32 row)) rows

-- what is behind `e` is type 1, and what is behind `x` is field 1
abbrev single : List (List DeclaredType)
single =
    (e ∷ type (codes "9p") (x ∷ []) ∷ [])
    ∷ (e ∷ type (codes "float") (x ∷ []) ∷ [])
    ∷ (e ∷ type (codes "e") (x ∷ []) ∷ [])
    ∷ (e ∷ type (codes "p") [] ∷ [])
    ∷ (e ∷ type (codes "p") (x ∷ field (codes "y.z") (codes "char") 1 0 ∷ []) ∷ [])
    ∷ (e ∷ type (codes "p") (x ∷ field (codes "y") (codes "char") 1 0 ∷ field (codes "x") (codes "char") 1 0 ∷ []) ∷ [])
    ∷ (e ∷ type (codes "p") (x ∷ field (codes "y") (codes "integer ") 4 0 ∷ []) ∷ [])
    ∷ (e ∷ type (codes "p") (x ∷ field (codes "y") (codes "float[2]") 4 0 ∷ []) ∷ [])
    ∷ (e ∷ type (codes "p") (x ∷ field (codes "y") (codes "p") 4 0 ∷ []) ∷ [])
    ∷ (e ∷ type (codes "p") (x ∷ field (codes "y") (codes "integer") 3 0 ∷ []) ∷ [])
    ∷ (e ∷ type (codes "p") (x ∷ field (codes "y") (codes "integer") 4 2147483648 ∷ []) ∷ [])
    ∷ (e ∷ type (codes "p") (x ∷ field (codes "y") (codes "e") 0 1 ∷ []) ∷ [])
    ∷ (e ∷ type (codes "p") (x ∷ field (codes "y") (codes "integer[n]") 4 0 ∷ []) ∷ [])
    ∷ (e ∷ type (codes "p") (x ∷ field (codes "n") (codes "integer") 4 1 ∷ field (codes "y") (codes "char[n]") 1 0 ∷ []) ∷ [])
    ∷ (e ∷ type (codes "p") (x ∷ field (codes "y") (codes "integer[16384]") 4 0 ∷ []) ∷ [])
    ∷ (type (codes "e") (field (codes "a") (codes "char[65536]") 1 0 ∷ [])
    ∷ type (codes "p") (field (codes "y") (codes "e[65536]") 0 0 ∷ []) ∷ [])
    ∷ []

each_fault_is_found :
    faults single
    ≡ Some (fault.BadName 1 None) ∷ Some (fault.BadName 1 None) ∷ Some (fault.TypeTwice 1) ∷ Some (fault.Limit which.Fields 0)
    ∷ Some (fault.BadName 1 (Some 1))
    ∷ Some (fault.Twice 1 2) ∷ Some (fault.TypeText 1 1) ∷ Some (fault.Float 1 1) ∷ Some (fault.UnknownType 1 1) ∷ Some (fault.Size 1 1)
    ∷ Some (fault.Default 1 1) ∷ Some (fault.Default 1 1) ∷ Some (fault.CountField 1 1) ∷ Some (fault.CountDefault 1 1)
    ∷ Some (fault.Limit which.Length 65540) ∷ Some (fault.Limit which.Length 4294967295) ∷ []
unfolding digits word_of fixed_of inside_of shape_of base_of type_text_of shape_in counted_fields without_count_default within_nesting
    new_type_name new_field_count new_field_name allowed_size allowed_default ended_type stated_field stated_fields within_length laid_type
    laid_types type_count by_profile
each_fault_is_found = refl

-- two faults in each
abbrev double : List (List DeclaredType)
double =
    (type (codes "9p") [] ∷ [])
    ∷ (e ∷ type (codes "e") [] ∷ [])
    ∷ (type (codes "p") [] ∷ type (codes "9p") (x ∷ []) ∷ [])
    ∷ (type (codes "p") (field (codes "9x") (codes "integer ") 4 0 ∷ []) ∷ [])
    ∷ (type (codes "p") (x ∷ field (codes "x") (codes "integer ") 4 0 ∷ []) ∷ [])
    ∷ (type (codes "p") (field (codes "y") (codes "float[0]") 4 0 ∷ []) ∷ [])
    ∷ (type (codes "p") (field (codes "y") (codes "float") 3 0 ∷ []) ∷ [])
    ∷ (type (codes "p") (field (codes "y") (codes "q") 4 1 ∷ []) ∷ [])
    ∷ (type (codes "p") (field (codes "y") (codes "integer") 3 1099511627776 ∷ []) ∷ [])
    ∷ (type (codes "p") (field (codes "y") (codes "integer") 4 1099511627776 ∷ field (codes "9z") (codes "char") 1 0 ∷ []) ∷ [])
    ∷ (type (codes "p") (field (codes "y") (codes "integer[n]") 4 0 ∷ field (codes "z") (codes "char") 2 0 ∷ []) ∷ [])
    ∷ (type (codes "p") (field (codes "n") (codes "integer") 4 1 ∷ field (codes "y") (codes "char[n]") 1 0
    ∷ field (codes "z") (codes "char[m]") 1 0 ∷ []) ∷ [])
    ∷ (type (codes "p") (field (codes "n") (codes "integer") 4 1 ∷ field (codes "y") (codes "char[n]") 1 0
    ∷ field (codes "z") (codes "integer[65536]") 4 0 ∷ []) ∷ [])
    ∷ (type (codes "p") (field (codes "y") (codes "integer[16385]") 4 0 ∷ []) ∷ type (codes "p") (x ∷ []) ∷ [])
    ∷ []

first_fault_is_answered :
    faults double
    ≡ Some (fault.BadName 0 None) ∷ Some (fault.TypeTwice 1) ∷ Some (fault.Limit which.Fields 0) ∷ Some (fault.BadName 0 (Some 0))
    ∷ Some (fault.Twice 0 1)
    ∷ Some (fault.TypeText 0 0) ∷ Some (fault.Float 0 0) ∷ Some (fault.UnknownType 0 0) ∷ Some (fault.Size 0 0) ∷ Some (fault.Default 0 0)
    ∷ Some (fault.Size 0 1) ∷ Some (fault.CountField 0 2) ∷ Some (fault.CountDefault 0 0) ∷ Some (fault.Limit which.Length 65540) ∷ []
unfolding digits word_of fixed_of inside_of shape_of base_of type_text_of shape_in counted_fields without_count_default within_nesting
    new_type_name new_field_count new_field_name allowed_size allowed_default ended_type stated_field stated_fields within_length laid_type
    laid_types type_count by_profile
first_fault_is_answered = refl

-- ---- limits

too_many_types : fault_in (by_profile Be64 (replicate 65 (type (codes "9p") []))) ≡ Some (fault.Limit which.Types 65)
unfolding type_count by_profile
too_many_types = refl

too_many_fields : fault_in (by_profile Be64 (type (codes "p") (replicate 1025 x) ∷ [])) ≡ Some (fault.Limit which.Fields 1025)
unfolding new_type_name new_field_count laid_type laid_types type_count by_profile
too_many_fields = refl

-- a type of 1,024 chars
abbrev wide : List ℕ → RecordType
wide name = record {
  name = name;
  length = 1024;
  fields = replicate 1024
      (record { name = name; base = Number Char; shape = One; size = 1; offset = 0; fallback = pos 0 });
}

abbrev four_wide : List RecordType
four_wide = wide (codes "a") ∷ wide (codes "b") ∷ wide (codes "c") ∷ wide (codes "d") ∷ []

too_many_fields_of_all : fault_in (laid_type Be64 four_wide (type (codes "p") (field (codes "9x") (codes "char") 1 0 ∷ [])))
    ≡ Some (fault.Limit which.AllFields 4097)
unfolding new_type_name new_field_count laid_type
too_many_fields_of_all = refl

-- each type but the first has a field of the one before
abbrev chain : ℕ → List DeclaredType
chain last = take last (
    type (codes "a") (field (codes "x") (codes "char") 1 0 ∷ []) ∷ type (codes "b") (field (codes "x") (codes "a") 0 0 ∷ [])
    ∷ type (codes "c") (field (codes "x") (codes "b") 0 0 ∷ [])
    ∷ type (codes "d") (field (codes "x") (codes "c") 0 0 ∷ []) ∷ type (codes "e") (field (codes "x") (codes "d") 0 0 ∷ [])
    ∷ type (codes "f") (field (codes "x") (codes "e") 0 0 ∷ [])
    ∷ type (codes "g") (field (codes "x") (codes "f") 0 0 ∷ []) ∷ type (codes "h") (field (codes "x") (codes "g") 0 0 ∷ [])
    ∷ type (codes "i") (field (codes "x") (codes "h") 0 0 ∷ [])
    ∷ type (codes "j") (field (codes "x") (codes "i") 0 0 ∷ []) ∷ type (codes "k") (field (codes "x") (codes "j") 0 0 ∷ [])
    ∷ type (codes "l") (field (codes "x") (codes "k") 0 0 ∷ [])
    ∷ type (codes "m") (field (codes "x") (codes "l") 0 0 ∷ []) ∷ type (codes "n") (field (codes "x") (codes "m") 0 0 ∷ [])
    ∷ type (codes "o") (field (codes "x") (codes "n") 0 0 ∷ [])
    ∷ type (codes "p") (field (codes "x") (codes "o") 0 0 ∷ []) ∷ type (codes "q")
    (field (codes "x") (codes "p[65536]") 0 0 ∷ field (codes "y") (codes "p[65536]") 0 0 ∷ []) ∷ []
    )

-- sixteen deep is laid out; seventeen deep is refused, before the length of the seventeenth type is
deepest : map (λ (n : ℕ). fault_in (by_profile Be64 (chain n))) (16 ∷ 17 ∷ []) ≡ None ∷ Some (fault.Limit which.Nesting 17) ∷ []
unfolding digits word_of fixed_of inside_of shape_of base_of type_text_of shape_in counted_fields without_count_default within_nesting
    new_type_name new_field_count new_field_name allowed_size allowed_default ended_type stated_field stated_fields within_length laid_type
    laid_types type_count by_profile
deepest = refl
