-- What a run of a plan on a record answers.
use Rattle.std.specs.Prelude.{◌≡◌, ◌↔◌, ℕ, ◌<◌, ◌^◌, List, length, Ok, ⊤}
use Rattle.std.specs.Cow.{cow_slice_items, IsBorrowedSlice, IsOwnedSlice}
use Rattle.std.specs.declared.borrow.CowSlice.{CowSlice}
use Rattle.evp_format.specs.Converting.{Made, made, unfit, large, convert}
use Rattle.evp_format.specs.Datum.{Datum}
use Rattle.evp_format.specs.Layout.{Layout}
use Rattle.evp_format.specs.Packing.{pack}
use Rattle.evp_format.specs.Viewing.{image_of, view}
use Rattle.evp_plan.specs.Planned.{Planned, measured_whole, StandsFor}
use Rattle.evp_record.specs.Record.{Record, value_of}
use Rattle.evp_runner.specs.declared.convert_fault.ConvertFault.{ConvertFault}
use Rattle.evp_runner.specs.declared.convert_fault.ConvertFault.TheVariants as convert_fault
use Rattle.evp_runner.specs.Outcome.{outcome}
use Rattle.evp_runner.specs.declared.run_fault.RunFault.{RunFault}
use Rattle.evp_runner.specs.declared.run_fault.RunFault.TheVariants.{Unfit, Large, Memory}

-- the plan finds this size for the record, by some limit
pub record IsSizeOf (plan : Planned) (held : Record) (size : ℕ) : Type 0 where
  pub limit : ℕ
  pub small : size < 2 ^ 32
  pub is : measured_whole plan (image_of held.layout held.bytes) limit ≡ made tt size

-- the bytes are the packed conversion of the record, whatever the limit by which it was made
abbrev pub AreConverted : Planned → Record → List ℕ → Type 0
AreConverted plan held bytes =
    (to : Layout) (value : Datum) (limit size : ℕ) → StandsFor plan held.layout to
    → convert to (value_of held) limit ≡ made value size → bytes ≡ pack to value

-- the record has a conversion within the limit, and the bytes are that, packed
pub record IsConversion (held : Record) (to : Layout) (limit : ℕ) (bytes : List ℕ) : Type 0 where
  pub value : Datum
  pub size : ℕ
  pub converted : convert to (value_of held) limit ≡ made value size
  pub packed : bytes ≡ pack to value
  pub short : length bytes < 2 ^ 32

-- the record has a conversion within the limit, and the bytes have that value: the record's own
-- bytes exactly where its format is the
-- receiver's, else the packed record
pub record IsPassed {Z : Type 0} (held : Record) (to : Layout) (limit : ℕ) (bytes : CowSlice ℕ Z) :
    Type 0 where
  pub value : Datum
  pub size : ℕ
  pub converted : convert to (value_of held) limit ≡ made value size
  pub viewed : view to (cow_slice_items bytes) ≡ Ok value
  pub short : length (cow_slice_items bytes) < 2 ^ 32
  pub lent : IsBorrowedSlice bytes ↔ (held.layout ≡ to)
  pub own : IsBorrowedSlice bytes → cow_slice_items bytes ≡ held.bytes
  pub packed : IsOwnedSlice bytes → cow_slice_items bytes ≡ pack to value

-- this holds of each receiver and limit for which the record's conversion has this size
abbrev pub AtSize : Planned → Record → ℕ → (Layout → ℕ → Type 0) → Type 0
AtSize plan held size Holds =
    (to : Layout) (limit : ℕ) → StandsFor plan held.layout to
    → outcome (convert to (value_of held) limit) ≡ Ok size → Holds to limit

-- the fault is what the conversion answers; want of memory may come whatever it answers
abbrev pub IsRunFault : {A : Type 0} → RunFault → Made A → Type 0
IsRunFault (Unfit place) answer = answer ≡ unfit place
IsRunFault (Large place) answer = answer ≡ large place
IsRunFault Memory answer = ⊤

-- the same fault
abbrev pub run_fault_of : ConvertFault → RunFault
run_fault_of (convert_fault.Unfit place) = Unfit place
run_fault_of (convert_fault.Large place) = Large place
