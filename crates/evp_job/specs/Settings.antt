-- The settings of a transform in a job document.
use Rattle.std.specs.Prelude.{ℕ, ◌-◌, Bool, true, false, not, ◌&&◌, nat_eq, List, [], ◌∷◌, ◌++◌}
use Rattle.std.specs.Prelude.{length, slice_get, Option, Some, None, option_and_then, Result, Ok}
use Rattle.std.specs.Prelude.{if◌then◌else◌}
use Rattle.std.specs.List.{list_any}
use Rattle.std.specs.Option.{ok_or}
use Rattle.evp_action.specs.declared.action.Setting.{Setting}
use Rattle.evp_base.specs.declared.step.Step.TheVariants.{Index}
use Rattle.evp_eval.specs.Bound.{BoundTree}
use Rattle.evp_eval.specs.Meaning.{field_named}
use Rattle.evp_format.specs.Class.{type_fields}
use Rattle.evp_format.specs.Layout.{Layout}
use Rattle.evp_format.specs.declared.field.Base.{Base}
use Rattle.evp_format.specs.declared.field.Base.TheVariants.{Number, Text, Nested}
use Rattle.evp_format.specs.declared.field.Field.{Field}
use Rattle.evp_format.specs.declared.field.Shape.{Shape}
use Rattle.evp_format.specs.declared.field.Shape.TheVariants.{One, Fixed, Counted}
use Rattle.evp_job.specs.declared.fault.JobFault.{JobFault}
use Rattle.evp_job.specs.declared.fault.JobFault.TheVariants as fault
use Rattle.evp_job.specs.Expressions.{Reading, expression_in}
use Rattle.evp_job.specs.Forms.{misformed, text_in, list_in, list_within}
use Rattle.evp_job.specs.Steps.{◌>>=◌, only_if, under, all_from, each_in}
use Rattle.serde_json.specs.Data.{Data}

-- ---- what a setting says: a field's name, and an expression's text

pub record SettingShape : Type 0 where
  pub field : List ℕ
  pub text : List ℕ

abbrev pub setting_text : List ℕ → List ℕ → SettingShape
setting_text field text = record { field = field; text = text }

-- the two values of a setting
unfoldable pub setting_values : Data → Result (List Data) JobFault
setting_values value = do
  values ← list_in (Some value)
  right ← only_if (nat_eq (length values) 2) misformed
  Ok values

unfoldable pub setting_in : Data → Result SettingShape JobFault
setting_in value = do
  values ← setting_values value
  field ← under (Index 0) (text_in (slice_get values 0))
  text ← under (Index 1) (text_in (slice_get values 1))
  Ok (setting_text field text)

unfoldable pub settings_in : Option Data → Result (List SettingShape) JobFault
settings_in value = do
  values ← list_within 0 64 value
  each_in setting_in values

-- ---- fields that may be set: single numbers which no array has as its count

abbrev pub is_number_of : Shape → Base → Bool
is_number_of One (Number kind) = true
is_number_of _ _ = false

abbrev pub counts_by : ℕ → Shape → Bool
counts_by number One = false
counts_by number (Fixed n) = false
counts_by number (Counted k) = nat_eq k number

abbrev pub is_count_of : ℕ → List Field → Bool
is_count_of number fields = list_any (λ (field : Field). counts_by number field.shape) fields

abbrev pub root_fields : Layout → List Field
root_fields layout = type_fields layout (length layout.types - 1)

-- the number of a field of a record, where it may be set
abbrev pub number_to_set : List Field → ℕ × Field → Option ℕ
number_to_set fields found =
    if is_number_of found.1.shape found.1.base && not (is_count_of found.0 fields)
    then Some found.0 else None

-- that of the record's field of this name
abbrev pub settable : List ℕ → List Field → Option ℕ
settable name fields = option_and_then (number_to_set fields) (field_named name 0 fields)

-- ---- settings as they are carried out

abbrev pub set_with : ℕ → BoundTree → Setting
set_with field value = record { field = field; value = value }

-- setting j of stone k, behind those before it: a field of the second format that may be set, and
-- an expression over the first
unfoldable pub next_set : Reading → ℕ → Layout → Layout → ℕ → List Setting → SettingShape
    → Result (List Setting) JobFault
next_set reading k from into j done said = do
  field ← ok_or (settable said.field (root_fields into)) (fault.SetTarget k j)
  value ← expression_in reading k j from said.text
  Ok (done ++ set_with field value ∷ [])

abbrev pub all_set : Reading → ℕ → Layout → Layout → List SettingShape
    → Result (List Setting) JobFault
all_set reading k from into settings = all_from (next_set reading k from into) 0 [] settings
