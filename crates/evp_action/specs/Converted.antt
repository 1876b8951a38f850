-- A record that is converted into the format of a number, or why it isn't.
use Rattle.std.specs.Prelude.{◌≡◌, ℕ, ◌<◌, List, Result, Ok}
use Rattle.std.specs.Prelude.{Err, Option, Some, None, slice_get, length, ⊤}
use Rattle.evp_action.specs.declared.acted.Reason.{Reason}
use Rattle.evp_action.specs.declared.acted.Reason.TheVariants as reason
use Rattle.evp_action.specs.declared.refusal.Refusal.{Refusal}
use Rattle.evp_action.specs.declared.refusal.Refusal.TheVariants.{Cause, Memory}
use Rattle.evp_action.specs.Acting.{converting}
use Rattle.evp_action.specs.Outcome.{Outcome, refused}
use Rattle.evp_action.specs.Performed.{HasValue}
use Rattle.evp_action.specs.Storing.{IsPacked}
use Rattle.evp_cache.specs.declared.found.Found.{Found}
use Rattle.evp_cache.specs.declared.found.Found.TheVariants.{Plan, Clash}
use Rattle.evp_cache.specs.Known.{Cells, Known, IsCacheOf, IsPassOf}
use Rattle.evp_format.specs.Conversion.{converted, conversion}
use Rattle.evp_format.specs.Converting.{made, convert}
use Rattle.evp_format.specs.Datum.{Datum, rec, Entries}
use Rattle.evp_format.specs.Layout.{Layout}
use Rattle.evp_format.specs.Path.{path_of}
use Rattle.evp_format.specs.Viewing.{view}
use Rattle.evp_format.specs.WellLaid.{IsWellLaid}
use Rattle.evp_plan.specs.Planned.{Planned}
use Rattle.evp_record.specs.OwnedBytes.{OwnedBytes}
use Rattle.evp_record.specs.Record.{Record, value_of}
use Rattle.evp_runner.specs.declared.run_fault.RunFault.{RunFault}
use Rattle.evp_runner.specs.declared.run_fault.RunFault.TheVariants as run_fault

-- a pass of a cache of these formats may be asked for this pair
pub record CanAsk (cells : Cells) (formats : List Layout) (ks : List Known) (from to : ℕ) : Type 0
  where
    pub whole : IsCacheOf cells formats
    pub sender : from < length formats
    pub receiver : to < cells.declared
    pub right : IsPassOf cells formats ks

-- the value, by the numbers of the two formats, which are there, has this conversion
pub record IsConverted (formats : List Layout) (from to limit : ℕ) (value other : Datum) : Type 0
  where
    pub sender : Layout
    pub receiver : Layout
    pub sender_is : slice_get formats from ≡ Some sender
    pub receiver_is : slice_get formats to ≡ Some receiver
    pub size : ℕ
    pub is : conversion sender receiver value limit ≡ converted other size

-- a record of the format of the second number, which has the conversion of the value
pub record IsInto (formats : List Layout) (from to limit : ℕ) (value : Datum) (owned : OwnedBytes) :
    Type 0 where
  pub value_made : Datum
  pub converted : IsConverted formats from to limit value value_made
  pub numbered : owned.format ≡ to
  pub viewed : view converted.receiver owned.bytes ≡ Ok value_made

-- the record has a conversion within the limit, and the bytes are that, packed
pub record IsPackedConversion (held : Record) (to : Layout) (limit : ℕ) (bytes : List ℕ) : Type 0
  where
    pub fields : Entries
    pub size : ℕ
    pub converted : convert to (value_of held) limit ≡ made (rec fields) size
    pub packed : IsPacked to fields bytes

-- a packed record of the format of this number, which is there
pub record IsPackedIn (formats : List Layout) (format : ℕ) (fields : Entries) (bytes : List ℕ) :
    Type 0 where
  pub layout : Layout
  pub there : slice_get formats format ≡ Some layout
  pub laid : IsWellLaid layout
  pub packed : IsPacked layout fields bytes

-- a packed record of the format of the second number, which has the conversion of the value
pub record IsPackedInto (formats : List Layout) (from to limit : ℕ) (value : Datum)
    (bytes : List ℕ) : Type 0 where
  pub fields : Entries
  pub converted : IsConverted formats from to limit value (rec fields)
  pub packed : IsPackedIn formats to fields bytes

-- the record is refused for this cause, whatever is to be done with the conversion. Nothing is said
-- of want of memory
abbrev pub IsCause : List Layout → ℕ → ℕ → ℕ → Datum → Refusal → Type 0
IsCause formats from to limit value (Cause why) =
    (next : Datum → Outcome)
    → converting (slice_get formats from) (slice_get formats to) limit value next ≡ refused why
IsCause formats from to limit value Memory = ⊤

-- whatever value this record has: that one, of the format of the number, has its conversion
abbrev pub IsConversionOf : List Layout → ℕ → ℕ → OwnedBytes → OwnedBytes → Type 0
IsConversionOf formats to limit owned other =
    (value : Datum) → HasValue formats owned value
    → IsInto formats owned.format to limit value other

-- whatever value the record has: the bytes are its conversion into the format of the number, packed
abbrev pub IsPackedConversionOf : List Layout → ℕ → ℕ → OwnedBytes → List ℕ → Type 0
IsPackedConversionOf formats to limit owned bytes =
    (value : Datum) → HasValue formats owned value
    → IsPackedInto formats owned.format to limit value bytes

-- whatever value the record has: it is refused for this cause
abbrev pub IsCauseFor : List Layout → ℕ → ℕ → OwnedBytes → Refusal → Type 0
IsCauseFor formats to limit owned cause =
    (value : Datum) → HasValue formats owned value
    → IsCause formats owned.format to limit value cause

-- the outcome is a refusal for this cause. Nothing is said of want of memory
abbrev pub IsRefused : Outcome → Refusal → Type 0
IsRefused outcome (Cause why) = outcome ≡ refused why
IsRefused outcome Memory = ⊤

-- how many plans may be built for pairs that no pass knows: one where there was no memory
abbrev pub spare : {A : Type 0} → Result A Refusal → ℕ
spare (Ok a) = 0
spare (Err (Cause why)) = 0
spare (Err Memory) = 1

-- the plan that was found
abbrev pub plan_of : Found → Option Planned
plan_of (Plan plan) = Some plan
plan_of (Clash path) = None

-- the formats clash, and this is the refusal
abbrev pub IsClash : Found → Refusal → Type 0
IsClash (Clash path) (Cause why) = why ≡ reason.Clash path
IsClash (Plan plan) (Cause why) = ⊥
IsClash found Memory = ⊤

-- why a record whose conversion has this fault is refused
abbrev pub fault_reason : Layout → RunFault → Option Reason
fault_reason to (run_fault.Unfit place) = Some (reason.Unfit (path_of to place))
fault_reason to (run_fault.Large place) = Some (reason.Large (path_of to place))
fault_reason to run_fault.Memory = None
