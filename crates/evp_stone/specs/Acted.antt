-- What a stone's act on one record is.
use Rattle.std.specs.Prelude.{◌≡◌, ℕ, ◌<◌, List, length, slice_get}
use Rattle.evp_action.specs.declared.acted.Acted.{Acted}
use Rattle.evp_action.specs.Asking.{Keeps, Asks, BuildsFor}
use Rattle.evp_action.specs.Performed.{IsActed}
use Rattle.evp_cache.specs.Known.{Cells, Known, IsCacheOf, IsPassOf}
use Rattle.evp_record.specs.Owned.{HasValueIn}
use Rattle.evp_record.specs.OwnedBytes.{OwnedBytes}
use Rattle.evp_stone.specs.declared.entry.Entry.{Entry}
use Rattle.evp_stone.specs.Accounts.{act_of}
use Rattle.evp_stone.specs.Actor.{pairs_by}
use Rattle.evp_stone.specs.Carried.{Carried, outcome_of}
use Rattle.evp_stone.specs.Entries.{IsThat}
use Rattle.evp_stone.specs.JobShape.{JobShape}
use Rattle.evp_stone.specs.State.{Received, Running, Outlet, RouteWork}
use Rattle.evp_stone.specs.Turning.{Acts, acted_on}

-- the stone can act on the record: it is one of the job's, the record has a value in its format,
-- and the plans are for the job's formats, as is what is known of them
pub record CanAct (job : JobShape) (cells : Cells) (known : List Known) (number : ℕ)
    (owned : OwnedBytes) : Type 0 where
  pub cache : IsCacheOf cells job.formats
  pub declared : cells.declared ≡ job.declared
  pub pass : IsPassOf cells job.formats known
  pub stone : number < length job.stones
  pub item : HasValueIn job.formats owned

-- this is what the stone does with the record, whatever record on its way it stands for
abbrev pub Performs : JobShape → ℕ → OwnedBytes → Acted → Type 0
Performs job stone owned acted =
    (c : Carried) → IsThat job.formats owned c
    → IsActed job.formats (outcome_of (act_of job) stone c) acted

-- what was known of plans before and after that, and how many were built: the pass newly knows
-- pairs between which the stone converts the record, and at most so many plans were built for no
-- such pair
pub record Learns (job : JobShape) (cells : Cells) (stone : ℕ) (owned : OwnedBytes) (spare : ℕ)
    (old new : List Known) (before after : ℕ) : Type 0 where
  pub keeps : Keeps cells job.formats old new
  pub asks : (c : Carried) → IsThat job.formats owned c
      → Asks (pairs_by job (slice_get job.stones stone) c) old new
  pub builds : BuildsFor spare old new before after

-- the stone acted on the record of a route: what came of it waits to go out, and is counted
pub record IsActedOn (job : JobShape) (stone : ℕ) (here new : RouteWork) (received : Received)
    (waiting : List Entry) : Type 0 where
  pub outlets : List Outlet
  pub running : Running
  pub acts : Acts job stone here received waiting outlets running
  pub is : new ≡ acted_on here outlets here.kept running
