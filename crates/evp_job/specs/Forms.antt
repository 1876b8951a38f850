-- The forms of JSON values in a job document. What isn't of its form is `Member`, what is out of
-- its range `Limit`.
use Rattle.std.specs.Prelude.{ℕ, ℤ, Bool, true, ◌&&◌, nat_le, List, [], ◌∷◌, length}
use Rattle.std.specs.Prelude.{Option, Some, None}
use Rattle.std.specs.Prelude.{option_map, option_and_then, is_some, Result, Ok}
use Rattle.std.specs.List.{list_any}
use Rattle.std.specs.Option.{ok_or}
use Rattle.evp_base.specs.Name.{is_name}
use Rattle.evp_format.specs.Bytes.{bytes_equal}
use Rattle.serde_json.specs.Data.{Data, Items, no_items, item, Members, no_members, member}
use Rattle.serde_json.specs.Find.{as_array, as_integer, as_number, as_object, as_str, as_u64}
use Rattle.evp_job.specs.declared.fault.JobFault.{JobFault}
use Rattle.evp_job.specs.declared.fault.JobFault.TheVariants as fault
use Rattle.evp_job.specs.Steps.{◌>>=◌, only_if}

-- what stands here isn't of its form
abbrev pub misformed : JobFault
misformed = fault.Member []

-- ---- numbers

-- a whole number from 0 on, without fraction or exponent
unfoldable pub whole_number : Option Data → Result ℕ JobFault
whole_number value = ok_or (option_and_then as_u64 (option_and_then as_number value)) misformed

-- one of this range
unfoldable pub number_within : ℕ → ℕ → Option Data → Result ℕ JobFault
number_within least greatest value = do
  n ← whole_number value
  inside ← only_if (nat_le least n && nat_le n greatest) (fault.Limit [] n)
  Ok n

-- a whole number of 64 bits, signed or unsigned
unfoldable pub integer : Option Data → Result ℤ JobFault
integer value = ok_or (option_and_then as_integer (option_and_then as_number value)) misformed

-- ---- texts

unfoldable pub text_in : Option Data → Result (List ℕ) JobFault
text_in value = ok_or (option_and_then as_str value) misformed

unfoldable pub name_in : Option Data → Result (List ℕ) JobFault
name_in value = do
  text ← text_in value
  named ← only_if (is_name text) misformed
  Ok text

-- ---- lists and objects

abbrev pub listed : Items → List Data
listed no_items = []
listed (item value values) = value ∷ listed values

unfoldable pub list_in : Option Data → Result (List Data) JobFault
list_in value = ok_or (option_map listed (option_and_then as_array value)) misformed

-- one of so many values
unfoldable pub list_within : ℕ → ℕ → Option Data → Result (List Data) JobFault
list_within least greatest value = do
  values ← list_in value
  inside ← only_if (nat_le least (length values) && nat_le (length values) greatest)
      (fault.Limit [] (length values))
  Ok values

unfoldable pub object_in : Data → Result Data JobFault
object_in value = only_if (is_some (as_object value)) misformed >>= λ here. Ok value

abbrev pub all_known : List (List ℕ) → Members → Bool
all_known known no_members = true
all_known known (member key value members) =
    list_any (bytes_equal key) known && all_known known members

abbrev pub knows_all : List (List ℕ) → Option Members → Bool
knows_all known None = true
knows_all known (Some members) = all_known known members

-- no other members than these
unfoldable pub no_others : List (List ℕ) → Data → Result (Unit {0}) JobFault
no_others known value = only_if (knows_all known (as_object value)) misformed
