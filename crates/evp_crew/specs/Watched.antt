-- What is known of an actor at which a caller looks.
use Rattle.evp_cache.specs.Known.{Cells}
use Rattle.evp_stone.specs.Actor.{ActorShape, HasActed}
use Rattle.evp_stone.specs.JobShape.{JobShape}
use Rattle.evp_stone.specs.Port.{Counting}

-- by some port's counts it has its state
pub record HasActedSo (job : JobShape) (actor : ActorShape) : Type 0 where
  pub cells : Cells
  pub taken : Counting
  pub given : Counting
  pub state : HasActed job cells taken given actor
