-- The queue of a stone before it is parted, and the sources, which take nothing.
use Rattle.std.specs.Prelude.{◌≡◌, ℕ, true, false, List, length, Option, Some, None, slice_get}
use Rattle.evp_queue.specs.Counts.{zeroed}
use Rattle.evp_queue.specs.Passes.{giver_of, taker_of, GivesTo, TakesFrom}
use Rattle.evp_queue.specs.Rule.{progress}
use Rattle.evp_stone.specs.JobShape.{JobShape}
use Rattle.evp_crew.specs.declared.opening.Queue.{Queue}
use Rattle.evp_crew.specs.declared.passes.Taker.{Taker}
use Rattle.evp_crew.specs.Ways.{AreWays}

-- its passes have the routes that lead to the stone, and nothing was given or taken
pub record IsQueueOf (job : JobShape) (stone : ℕ) (made : Queue) : Type 0 where
  pub numbers : List ℕ
  pub ways : AreWays job None stone numbers
  pub gives : GivesTo made.queue made.rest
  pub given : giver_of made.rest ≡ progress (Some job) false (zeroed numbers)
  pub stone_is : made.take.stone ≡ stone
  pub takes : TakesFrom made.queue made.take.pass
  pub taken : taker_of made.take.pass ≡ progress (Some job) true (zeroed numbers)

-- so many times no pass
pub record AreNone (count : ℕ) (takes : List (Option Taker)) : Type 0 where
  pub long : length takes ≡ count
  pub each : (actor : ℕ) (take : Option Taker) → slice_get takes actor ≡ Some take → take ≡ None
