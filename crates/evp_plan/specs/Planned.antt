-- What a plan is, and what it means that it stands for a pair of formats.
use Rattle.std.specs.Prelude.{◌≡◌, ◌↔◌, ℕ, ◌-◌, ◌≤◌, Bool, IsTrue, nat_lt, List, [], length, replicate}
use Rattle.std.specs.Prelude.{None, Ok}
use Rattle.evp_base.specs.declared.order.Order.{Order}
use Rattle.evp_base.specs.Numbers.{is_width}
use Rattle.evp_format.specs.Clashing.{clash}
use Rattle.evp_format.specs.Converting.{Made, made, unless_large, convert}
use Rattle.evp_format.specs.Datum.{Datum}
use Rattle.evp_format.specs.Layout.{Layout}
use Rattle.evp_format.specs.Packing.{Pieces, Machine, machine_of, put_pieces, pack}
use Rattle.evp_format.specs.Tree.{root_of, length_of}
use Rattle.evp_format.specs.Viewing.{Image, image_of, view}
use Rattle.evp_format.specs.WellLaid.{IsWellLaid}
use Rattle.evp_plan.specs.declared.step.Step.{Step}
use Rattle.evp_plan.specs.Measuring.{measured, sized}
use Rattle.evp_plan.specs.Moving.{moved}
use Rattle.evp_plan.specs.Program.{Program, program_at}
use Rattle.evp_plan.specs.Ready.{IsReady}
use Rattle.evp_plan.specs.Sound.{IsSound}

-- how the sender's machine stores numbers and pointers, and the bytes of its record's fixed part,
-- the same of the receiver's, lists of steps of which the last makes the record,
-- and whether the two formats are equal
pub record Planned : Type 0 where
  pub sender : Machine
  pub room : ℕ
  pub order : Order
  pub pointer : ℕ
  pub fixed : ℕ
  pub table : List (List Step)
  pub alike : Bool

-- a plan for a sender and a receiver of these formats
abbrev pub planned_of : Layout → Layout → List (List Step) → Bool → Planned
planned_of from to table alike = record {
  sender = machine_of from;
  room = length_of (root_of from);
  order = to.order;
  pointer = to.pointer;
  fixed = length_of (root_of to);
  table = table;
  alike = alike;
}

-- what makes the record
abbrev pub whole_program : Planned → Program
whole_program plan = program_at plan.table (length plan.table - 1)

abbrev pub machine_in : Planned → Machine
machine_in plan = record { order = plan.order; pointer = plan.pointer }

-- what the plan finds by a sender's record: the packed size, or the first fault
abbrev pub measured_whole : Planned → Image → ℕ → Made (Unit {0})
measured_whole plan image limit = unless_large (nat_lt limit plan.fixed) []
    (λ _. measured limit image (whole_program plan) [] 0 plan.fixed)

-- what it writes
abbrev pub moved_whole : Planned → Image → Pieces
moved_whole plan image = moved image (machine_in plan) (whole_program plan) 0 0 plan.fixed

-- the bytes of the pieces, and zeros between them
abbrev pub laid_out : Pieces → List ℕ
laid_out pieces = put_pieces pieces.all (replicate pieces.size 0)

-- the plan is one for the two formats: for each record of the first, what its steps find and write
-- is the conversion into the second, packed
pub record StandsFor (plan : Planned) (from to : Layout) : Type 0 where
  pub laid : IsWellLaid to
  pub no_clash : clash from to ≡ None
  pub alike : IsTrue plan.alike ↔ (from ≡ to)
  pub sender : plan.sender ≡ machine_of from
  pub room : (bytes : List ℕ) (value : Datum) → view from bytes ≡ Ok value → plan.room ≤ length bytes
  pub length : plan.fixed ≡ length_of (root_of to)
  pub pointer_allowed : IsTrue (is_width plan.pointer)
  pub measures : (bytes : List ℕ) (value : Datum) (limit : ℕ) → view from bytes ≡ Ok value
      → measured_whole plan (image_of from bytes) limit ≡ sized (convert to value limit)
  pub sizes : (bytes : List ℕ) (value converted : Datum) (limit size : ℕ)
      → view from bytes ≡ Ok value → convert to value limit ≡ made converted size
      → (moved_whole plan (image_of from bytes)).size ≡ size
  pub writes : (bytes : List ℕ) (value converted : Datum) (limit size : ℕ)
      → view from bytes ≡ Ok value → convert to value limit ≡ made converted size
      → laid_out (moved_whole plan (image_of from bytes)) ≡ pack to converted
  pub reads : (bytes : List ℕ) (value : Datum) → view from bytes ≡ Ok value
      → IsReady (image_of from bytes) (whole_program plan) 0
  pub sound : IsSound plan.pointer (whole_program plan) 16 plan.fixed

-- the plan is one for records of this format
pub record IsPlanFrom (plan : Planned) (from : Layout) : Type 0 where
  pub to : Layout
  pub stands : StandsFor plan from to
