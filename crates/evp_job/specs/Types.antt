-- Record types as a job document declares them.
use Rattle.std.specs.Prelude.{ℕ, ℤ, pos, ◌&&◌, nat_le, List, [], ◌∷◌, length, Option, Some, None}
use Rattle.std.specs.Prelude.{slice_get, codes, Result, Ok}
use Rattle.evp_base.specs.declared.step.Step.TheVariants.{Field, Index}
use Rattle.evp_profile.specs.Declarations.{DeclaredField, DeclaredType}
use Rattle.serde_json.specs.Data.{Data}
use Rattle.serde_json.specs.Find.{get}
use Rattle.evp_job.specs.declared.fault.JobFault.{JobFault}
use Rattle.evp_job.specs.Forms.{misformed, number_within, integer, text_in, list_in, object_in}
use Rattle.evp_job.specs.Forms.{no_others}
use Rattle.evp_job.specs.Steps.{◌>>=◌, only_if, under, each_in}

-- ---- a field: its name, its type text, and where wanted its size and its default

unfoldable pub field_values : Data → Result (List Data) JobFault
field_values value = do
  values ← list_in (Some value)
  right ← only_if (nat_le 2 (length values) && nat_le (length values) 4) misformed
  Ok values

-- a size, or 0 where there is none
abbrev pub size_in : Option Data → Result ℕ JobFault
size_in None = Ok 0
size_in (Some value) = number_within 0 4294967295 (Some value)

-- a default, or 0 where there is none
abbrev pub default_in : Option Data → Result ℤ JobFault
default_in None = Ok (pos 0)
default_in (Some value) = integer (Some value)

abbrev pub field_of : List ℕ → List ℕ → ℕ → ℤ → DeclaredField
field_of name type_text size fallback =
    record { name = name; type_text = type_text; size = size; fallback = fallback }

unfoldable pub field_in : Data → Result DeclaredField JobFault
field_in value = do
  values ← field_values value
  name ← under (Index 0) (text_in (slice_get values 0))
  type_text ← under (Index 1) (text_in (slice_get values 1))
  size ← under (Index 2) (size_in (slice_get values 2))
  fallback ← under (Index 3) (default_in (slice_get values 3))
  Ok (field_of name type_text size fallback)

-- ---- a type

unfoldable pub fields_in : Option Data → Result (List DeclaredField) JobFault
fields_in value = do
  values ← list_in value
  each_in field_in values

abbrev pub type_of : List ℕ → List DeclaredField → DeclaredType
type_of name fields = record { name = name; fields = fields }

unfoldable pub type_in : Data → Result DeclaredType JobFault
type_in value = do
  object ← object_in value
  name ← under (Field (codes "name")) (text_in (get (codes "name") object))
  fields ← under (Field (codes "fields")) (fields_in (get (codes "fields") object))
  alone ← no_others (codes "name" ∷ codes "fields" ∷ []) object
  Ok (type_of name fields)

unfoldable pub types_in : Option Data → Result (List DeclaredType) JobFault
types_in value = do
  values ← list_in value
  each_in type_in values
