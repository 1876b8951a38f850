-- A turn with an entry in hand, as it goes on the entry's route.
use Rattle.std.specs.Prelude.{◌≡◌, ℕ, ◌<◌, Bool, true, false, if◌then◌else◌, List, [], ◌∷◌, length}
use Rattle.std.specs.Prelude.{Option, Some, Result, Ok, Err, is_err}
use Rattle.std.specs.Arc.{arc_value}
use Rattle.std.specs.List.{AllByRecursion}
use Rattle.evp_cache.specs.Known.{Cells, Known, IsCacheOf, IsPassOf}
use Rattle.evp_record.specs.Owned.{HasValueIn}
use Rattle.evp_stone.specs.declared.entry.Entry.{Entry}
use Rattle.evp_stone.specs.declared.entry.Entry.TheVariants.{Item, Mark}
use Rattle.evp_stone.specs.Acted.{Learns}
use Rattle.evp_stone.specs.JobShape.{JobShape}
use Rattle.evp_stone.specs.Settling.{HasRoom}
use Rattle.evp_stone.specs.State.{Received, RouteWork, StoneWork}
use Rattle.evp_stone.specs.Turning.{Deals}

-- a stone with work on one route alone
abbrev pub alone : ℕ → List Entry → Option Entry → RouteWork → StoneWork
alone stone waiting hand here = record {
  stone = stone;
  waiting = waiting;
  hand = hand;
  routes = here ∷ [];
}

-- the record has a value in its format
abbrev pub HasValue : JobShape → Received → Type 0
HasValue job received = HasValueIn job.formats (arc_value received.1)

-- so has that of an entry
abbrev pub HasEntryValue : JobShape → Entry → Type 0
HasEntryValue job (Item route position index owned) = HasValue job (index, owned)
HasEntryValue job (Mark route position round) = Unit {0}

-- The stone can deal with the entry: it is one of the job's, there is room on the route, each
-- record has a value, and the plans are for the job's formats, as is what is known of them.
pub record CanDeal (job : JobShape) (cells : Cells) (known : List Known) (stone : ℕ)
    (here : RouteWork) (entry : Entry) : Type 0 where
  pub cache : IsCacheOf cells job.formats
  pub declared : cells.declared ≡ job.declared
  pub pass : IsPassOf cells job.formats known
  pub below : stone < length job.stones
  pub room : HasRoom here
  pub kept : AllByRecursion (HasValue job) here.kept
  pub value : HasEntryValue job entry

-- what is in hand then, or the entry where there is no memory and all is as it was
abbrev pub IsDealt : JobShape → ℕ → Bool → RouteWork → RouteWork → List Entry → Entry
    → Result (Option Entry) Entry → Type 0
IsDealt job stone frozen here new waiting entry (Ok hand) =
    Deals job (alone stone [] (Some entry) here) (alone stone waiting hand new) 0 here frozen
    here.kept entry
IsDealt job stone frozen here new waiting entry (Err back) =
    (new ≡ here) × (waiting ≡ []) × (back ≡ entry)

-- The stone learns from the record on which it acts, by whether it is frozen and what it keeps. So
-- many plans may be built for nothing.
module _ (job : JobShape) (cells : Cells) (stone spare : ℕ) (old new : List Known)
    (before after : ℕ) where
  abbrev pub LearnsNext : Bool → List Received → Entry → Type 0
  LearnsNext true kept entry = (new ≡ old) × (after ≡ before)
  LearnsNext false (received ∷ kept) entry =
      Learns job cells stone (arc_value received.1) spare old new before after
  LearnsNext false [] (Item route position index owned) =
      Learns job cells stone (arc_value owned) spare old new before after
  LearnsNext false [] (Mark route position round) = (new ≡ old) × (after ≡ before)

-- all that such a turn does on the entry's route, by whether it is frozen
pub record HasDealt (job : JobShape) (cells : Cells) (stone : ℕ) (frozen : Bool)
    (here new : RouteWork) (waiting : List Entry) (entry : Entry) (known later : List Known)
    (before after : ℕ) (result : Result (Option Entry) Entry) : Type 0 where
  pub dealt : IsDealt job stone frozen here new waiting entry result
  pub learns : LearnsNext job cells stone (if is_err result then 1 else 0) known later before after
      frozen here.kept entry
