-- What an action does with a record: by the number of its format, and its value.
use Rattle.std.specs.Prelude.{ℕ, zero, suc, ◌+◌, ◌-◌, ℤ, pos, negsuc, nat_lt}
use Rattle.std.specs.Prelude.{List, [], ◌∷◌, length, slice_get, Option, Some, None, Result, Ok, Err}
use Rattle.std.specs.Prelude.{if◌then◌else◌}
use Rattle.std.specs.Ordering.{int_eq}
use Rattle.evp_action.specs.declared.acted.Reason.{Reason}
use Rattle.evp_action.specs.declared.acted.Reason.TheVariants as reason
use Rattle.evp_action.specs.declared.acted.To.TheVariants.{All, One}
use Rattle.evp_action.specs.declared.action.Action.{Action}
use Rattle.evp_action.specs.declared.action.Action.TheVariants.{Filter, Router, Transform, Split}
use Rattle.evp_action.specs.declared.action.Action.TheVariants.{Terminal}
use Rattle.evp_action.specs.declared.action.Setting.{Setting}
use Rattle.evp_action.specs.Outcome.{Outcome, sent, dropped, arrived, refused}
use Rattle.evp_base.specs.Numbers.{is_in_range}
use Rattle.evp_base.specs.declared.step.Step.TheVariants as step
use Rattle.evp_eval.specs.Bound.{BoundTree}
use Rattle.evp_eval.specs.Value as expression
use Rattle.evp_eval.specs.declared.fault.EvalFault.{EvalFault}
use Rattle.evp_eval.specs.declared.fault.EvalFault.TheVariants as fault
use Rattle.evp_format.specs.Class.{field_at}
use Rattle.evp_format.specs.Conversion.{Answer, clashes, converted, unfit_at, large_at, conversion}
use Rattle.evp_format.specs.Datum.{Datum, num, rec, Entries, empty_record, entry}
use Rattle.evp_format.specs.Datum.{entries_of}
use Rattle.evp_format.specs.Layout.{Layout}
use Rattle.evp_format.specs.declared.field.Base.{Base}
use Rattle.evp_format.specs.declared.field.Base.TheVariants.{Number, Text, Nested}
use Rattle.evp_format.specs.declared.field.Field.{Field}

-- why the expression of a setting, or that of a filter or router, has no value
abbrev pub reason_of : Option ℕ → EvalFault → Reason
reason_of setting (fault.Overflow at) = reason.Overflow setting at
reason_of setting (fault.ZeroDivide at) = reason.ZeroDivide setting at
reason_of setting (fault.Index at) = reason.Index setting at

-- goes on with the value of an expression, or refuses
abbrev pub then_number : Option ℕ → Result ℤ EvalFault → (ℤ → Outcome) → Outcome
then_number setting (Ok n) next = next n
then_number setting (Err why) next = refused (reason_of setting why)

-- goes on with the converted value, or refuses
abbrev pub then_converted : Answer → (Datum → Outcome) → Outcome
then_converted (clashes path) next = refused (reason.Clash path)
then_converted (converted value size) next = next value
then_converted (unfit_at path) next = refused (reason.Unfit path)
then_converted (large_at path) next = refused (reason.Large path)

-- goes on with the value of a record of the one format, converted into the other. Both are there
abbrev pub converting : Option Layout → Option Layout → ℕ → Datum → (Datum → Outcome) → Outcome
converting None to limit value next = dropped
converting (Some from) None limit value next = dropped
converting (Some from) (Some to) limit value next =
    then_converted (conversion from to value limit) next

-- the record is dropped where the number is 0, else sent to each target
abbrev pub filtered : ℕ → Datum → ℤ → Outcome
filtered format value n = if int_eq n (pos 0) then dropped else sent All format value

-- the record is sent to the target at the position of this number, where there is one
abbrev pub routed : ℕ → ℕ → Datum → ℤ → Outcome
routed targets format value (pos n) = if nat_lt n targets then sent (One n) format value
    else dropped
routed targets format value (negsuc n) = dropped

-- the fields of a record, the one at this place set to a number
abbrev pub with_number : ℕ → ℤ → Entries → Entries
with_number k n empty_record = empty_record
with_number zero n (entry name value rest) = entry name (num n) rest
with_number (suc k) n (entry name value rest) = entry name value (with_number k n rest)

-- goes on where the number fits the field, which is a single number field
abbrev pub stored_as : Field → Base → ℤ → (Unit {0} → Outcome) → Outcome
stored_as field (Number kind) n next =
    if is_in_range kind field.size n then next tt
    else refused (reason.Unfit (step.Field field.name ∷ []))
stored_as field Text n next = dropped
stored_as field (Nested type_number) n next = dropped

abbrev pub stored : Option Field → ℤ → (Unit {0} → Outcome) → Outcome
stored None n next = dropped
stored (Some field) n next = stored_as field field.base n next

-- the settings from this number on, one after another: each expression sees the record before all
-- settings, and the number is stored where it fits
abbrev pub set_from : Layout → ℕ → List Setting → Datum → Entries → (Entries → Outcome) → Outcome
set_from into k [] value entries next = next entries
set_from into k (setting ∷ settings) value entries next =
    then_number (Some k) (expression.value setting.value.tree value)
    (λ n. stored (field_at into (length into.types - 1) setting.field) n
    (λ _. set_from into (k + 1) settings value (with_number setting.field n entries) next))

-- sets the fields of the record that was converted into the second format, and sends it
abbrev pub transformed : Option Layout → ℕ → List Setting → Datum → Datum → Outcome
transformed None into settings value made = dropped
transformed (Some layout) into settings value made =
    set_from layout 0 settings value (entries_of (Some made))
    (λ entries. sent All into (rec entries))

-- receives the record in this format
abbrev pub receives : List Layout → ℕ → ℕ → ℕ → Datum → Outcome
receives formats limit format from value =
    converting (slice_get formats from) (slice_get formats format) limit value (arrived format)

-- sends it on in this format where the test isn't 0
abbrev pub filters : List Layout → ℕ → ℕ → BoundTree → ℕ → Datum → Outcome
filters formats limit format test from value =
    converting (slice_get formats from) (slice_get formats format) limit value
    (λ made. then_number None (expression.value test.tree made) (filtered format made))

-- sends it on in this format to the target at the position of the number, where there is one
abbrev pub routes : List Layout → ℕ → ℕ → BoundTree → ℕ → ℕ → Datum → Outcome
routes formats limit format choose targets from value =
    converting (slice_get formats from) (slice_get formats format) limit value
    (λ made. then_number None (expression.value choose.tree made) (routed targets format made))

-- converts the record into the first format, and that into the second, in which fields are set
abbrev pub transforms : List Layout → ℕ → ℕ → ℕ → List Setting → ℕ → Datum → Outcome
transforms formats limit format into settings from value =
    converting (slice_get formats from) (slice_get formats format) limit value
    (λ made. converting (slice_get formats format) (slice_get formats into) limit made
    (transformed (slice_get formats into) into settings made))

-- what an action does with a record, where these are the formats, this is the longest record, and
-- it sends to so many targets
abbrev pub act : List Layout → ℕ → Action → ℕ → ℕ → Datum → Outcome
act formats limit (Filter format test) targets from value =
    filters formats limit format test from value
act formats limit (Router format choose) targets from value =
    routes formats limit format choose targets from value
act formats limit (Transform format into set) targets from value =
    transforms formats limit format into set.items from value
act formats limit Split targets from value = sent All from value
act formats limit (Terminal format) targets from value = receives formats limit format from value
