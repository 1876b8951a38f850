-- What a world is, and the rules that hold in it.
use Rattle.std.specs.Prelude.{◌≡◌, ℕ, ◌+◌, List, length, Option, Some, None, slice_get}
use Rattle.evp_cache.specs.Known.{Cells}
use Rattle.evp_core.specs.Lists.{ListsShape, HasLists, AreEmpty, taken_on, given_on}
use Rattle.evp_stone.specs.Actor.{Role, feeds, works, ActorShape, HasActed}
use Rattle.evp_stone.specs.Opening.{IsNumbered, Opens}

pub record WorldShape : Type 0 where
  pub cells : Cells
  pub lists : ListsShape
  -- sources first, then stones
  pub actors : List ActorShape
  -- how many turns were done
  pub done : ℕ

-- the stone from whose list an actor takes; a source takes from none
abbrev pub own_of : Role → Option ℕ
own_of (feeds work) = None
own_of (works work unended) = Some work.stone

-- Each list keeps its rule, and each actor has its state by the lists' counts.
pub record HasRules (world : WorldShape) : Type 0 where
  pub lists : HasLists world.lists
  pub count : length world.actors
      ≡ length world.lists.job.sources + length world.lists.job.stones
  pub numbered : (number : ℕ) (actor : ActorShape) → slice_get world.actors number ≡ Some actor
      → IsNumbered world.lists.job number actor.role
  pub acted : (number : ℕ) (actor : ActorShape) → slice_get world.actors number ≡ Some actor
      → HasActed world.lists.job world.cells (taken_on world.lists (own_of actor.role))
      (given_on world.lists) actor

-- no turn was done: the lists are empty, and each actor opens
pub record IsOpeningWorld (world : WorldShape) : Type 0 where
  pub lists : AreEmpty world.lists
  pub actors : (number : ℕ) (actor : ActorShape) → slice_get world.actors number ≡ Some actor
      → Opens world.lists.job number actor
  pub done : world.done ≡ 0
