-- What an actor's passes count, and of which queues they are.
use Rattle.std.specs.Prelude.{◌≡◌, ℕ, ◌-◌, ◌^◌, min, List, Option, Some, None, IsSome, slice_get}
use Rattle.evp_queue.specs.Counts.{count_at}
use Rattle.evp_queue.specs.Passes.{giver_of, taker_of, GivesTo, TakesFrom}
use Rattle.evp_queue.specs.declared.pass.GivePass.{GivePass}
use Rattle.evp_queue.specs.declared.queue.StoneQueue.{StoneQueue}
use Rattle.evp_graph.specs.declared.route.Route.{Route}
use Rattle.evp_stone.specs.declared.entry.Entry.{Entry}
use Rattle.evp_stone.specs.JobShape.{JobShape}
use Rattle.evp_stone.specs.Port.{Counting}
use Rattle.evp_stone.specs.Route.{last_stone}
use Rattle.evp_stone.specs.Turned.{Counted, counted}
use Rattle.evp_crew.specs.declared.crew.Crew.{Crew}
use Rattle.evp_crew.specs.declared.passes.Passes.{Passes}
use Rattle.evp_crew.specs.declared.passes.Taker.{Taker}

-- the pass by which an actor gives to a stone, where it gives to it
abbrev pub Giver : Type 0
Giver = Option (GivePass Entry JobShape)

-- how many entries were taken on a route
abbrev pub taken_by : Option Taker → Counting
taken_by None route = None
taken_by (Some taker) route = count_at route (taker_of taker.pass).counts

-- how many entries were given on a route by this one of the givers
abbrev pub given_at : ℕ → Option Giver → Option ℕ
given_at route None = None
given_at route (Some None) = None
given_at route (Some (Some pass)) = count_at route (giver_of pass).counts

-- the same by the giver to the stone to which the route leads
abbrev pub given_on : List Giver → ℕ → Option Route → Option ℕ
given_on gives number None = None
given_on gives number (Some route) = given_at number (slice_get gives (last_stone route))

abbrev pub given_by : JobShape → List Giver → Counting
given_by job gives number = given_on gives number (slice_get job.routes number)

-- a count, which stays at its last value
abbrev pub told : ℕ → ℕ
told count = min count (2 ^ 64 - 1)

-- how often there was nothing to take. Where nothing is ever taken, it stands at its last value
abbrev pub empties_by : Option Taker → ℕ
empties_by None = 2 ^ 64 - 1
empties_by (Some taker) = taker.pass.empties

-- how often there was no room, by the giver to a stone
abbrev pub fulls_at : Option Giver → ℕ
fulls_at None = 0
fulls_at (Some None) = 0
fulls_at (Some (Some pass)) = told pass.fulls

abbrev pub fulls_by : List Giver → ℕ → ℕ
fulls_by gives target = fulls_at (slice_get gives target)

-- all that an actor's passes count
abbrev pub counts_of : JobShape → Passes → Counted
counts_of job passes = counted (taken_by passes.take) (given_by job passes.gives.items)
    (empties_by passes.take) (fulls_by passes.gives.items)

-- the pass takes from the stone's queue, for the flows of the job
pub record TakesIn (crew : Crew) (job : JobShape) (taker : Taker) : Type 0 where
  pub queue : StoneQueue Entry JobShape
  pub there : slice_get crew.queues.items taker.stone ≡ Some queue
  pub takes : TakesFrom queue taker.pass
  pub whole : (taker_of taker.pass).whole ≡ Some job

-- the pass gives to the stone's queue, for the flows of the job
pub record GivesIn (crew : Crew) (job : JobShape) (target : ℕ) (pass : GivePass Entry JobShape)
    : Type 0 where
  pub queue : StoneQueue Entry JobShape
  pub there : slice_get crew.queues.items target ≡ Some queue
  pub gives : GivesTo queue pass
  pub whole : (giver_of pass).whole ≡ Some job

-- the passes are of the crew's queues
pub record AreOf (crew : Crew) (job : JobShape) (passes : Passes) : Type 0 where
  pub takes : (taker : Taker) → passes.take ≡ Some taker → TakesIn crew job taker
  pub gives : (target : ℕ) (pass : GivePass Entry JobShape)
      → slice_get passes.gives.items target ≡ Some (Some pass) → GivesIn crew job target pass

-- the number of the stone from whose queue entries are taken
abbrev pub stone_of : Option Taker → Option ℕ
stone_of None = None
stone_of (Some taker) = Some taker.stone

-- no route came to the passes, and they take from the same stone's queue
pub record Stay (job : JobShape) (old new : Passes) : Type 0 where
  pub stone : stone_of new.take ≡ stone_of old.take
  pub given : (route : ℕ) → IsSome (given_by job new.gives.items route)
      → IsSome (given_by job old.gives.items route)
