-- What every world keeps, and what it is made of.
use Rattle.std.specs.Prelude.{◌≡◌, ◌≢◌, ◌<◌, ◌≤◌, ℕ, length, Bool, true, false, List, [], Result}
use Rattle.std.specs.Prelude.{Ok, Err, take, slice_get}
use Rattle.std.specs.Prelude.{Some}
use Rattle.evp_base.specs.declared.memory.Memory as base
use Rattle.evp_cache.specs.Known.{Cells, IsCacheOf}
use Rattle.evp_stone.specs.declared.account.Account.{Account}
use Rattle.evp_stone.specs.declared.turn.Turn.{Turn}
use Rattle.evp_stone.specs.declared.turn.Turn.TheVariants.{Moved, Memory}
use Rattle.evp_core.specs.Lists.{ListsShape}
use Rattle.evp_core.specs.Moving.{AreClosed}
use Rattle.evp_core.specs.Progress.{IsCounted, turns_left}
use Rattle.evp_core.specs.WorldShape.{WorldShape, HasRules}
use Rattle.evp_core.specs.WorldTurned.{WorldTurned, HaveTurned, done_after}
use Rattle.evp_stone.specs.Actor.{ActorShape, HasActed}
use Rattle.evp_stone.specs.Job.{IsJob}
use Rattle.evp_stone.specs.JobShape.{JobShape}
use Rattle.evp_stone.specs.Opening.{Opens, IsFresh}
use Rattle.evp_stone.specs.Port.{Counting}

abbrev pub world_of : Cells → ListsShape → List ActorShape → ℕ → WorldShape
world_of cells lists actors done =
    record { cells = cells; lists = lists; actors = actors; done = done }

pub record IsHeld (world : WorldShape) : Type 0 where
  pub job : IsJob world.lists.job
  pub rules : HasRules world
  pub cache : IsCacheOf world.cells world.lists.job.formats
  pub declared : world.cells.declared ≡ world.lists.job.declared
  pub counted : IsCounted world

-- a turn moved, did something else, or found no memory
abbrev pub Steps : WorldShape → WorldShape → ℕ → Result Bool base.Memory → Type 0
Steps old new number (Ok true) = WorldTurned old new number Moved
Steps old new number (Ok false) =
    (turn : Turn) × (turn ≢ Moved) × (turn ≢ Memory) × WorldTurned old new number turn
Steps old new number (Err memory) = WorldTurned old new number Memory

-- the first so many of the turns were done, and the next one found no memory and doesn't count
pub record HasStopped (old new : WorldShape) (numbers : List ℕ) : Type 0 where
  pub count : ℕ
  pub between : WorldShape
  pub turned : HaveTurned old between (take count numbers)
  pub number : ℕ
  pub there : slice_get numbers count ≡ Some number
  pub stopped : WorldTurned between new number Memory
  pub done : new.done ≡ done_after count old.done

-- it is of the same job, with as many actors
pub record IsOfSame (old new : WorldShape) : Type 0 where
  pub job : new.lists.job ≡ old.lists.job
  pub count : length new.actors ≡ length old.actors
  -- and no more turns can move than before
  pub left : turns_left new ≤ turns_left old

-- one of the actors moved, or all are closed
abbrev pub HasPassed : WorldShape → WorldShape → Bool → Type 0
HasPassed old new true = turns_left new < turns_left old
HasPassed old new false = AreClosed new

-- the opening actor of a number, which has its state with every fresh port
pub record OpensAs (job : JobShape) (cells : Cells) (number : ℕ) (actor : ActorShape) : Type 0 where
  pub opens : Opens job number actor
  pub state : (taken given : Counting) → IsFresh job actor.role taken given
      → HasActed job cells taken given actor

-- one for each of the first so many numbers
pub record AreOpening (job : JobShape) (cells : Cells) (bound : ℕ) (actors : List ActorShape)
    : Type 0 where
  pub count : length actors ≡ bound
  pub each : (number : ℕ) (actor : ActorShape) → slice_get actors number ≡ Some actor
      → OpensAs job cells number actor

-- and the room that is empty and holds an account for each stone
pub record HasRoomFor (world : WorldShape) (accounts : List Account) (room : ℕ) : Type 0 where
  pub held : IsHeld world
  pub none : accounts ≡ []
  pub enough : length world.lists.job.stones ≤ room
