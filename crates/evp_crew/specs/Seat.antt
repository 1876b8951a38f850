-- What a seat is: an actor with its passes.
use Rattle.std.specs.Prelude.{◌≡◌, ℕ, Some, None, slice_get}
use Rattle.evp_cache.specs.Known.{Cells, IsCacheOf}
use Rattle.evp_graph.specs.declared.route.Route.{Route}
use Rattle.evp_stone.specs.Actor.{Role, feeds, works, ActorShape, HasActed}
use Rattle.evp_stone.specs.JobShape.{JobShape}
use Rattle.evp_stone.specs.Opening.{IsNumbered}
use Rattle.evp_crew.specs.declared.crew.Crew.{Crew}
use Rattle.evp_crew.specs.declared.passes.Passes.{Passes}
use Rattle.evp_crew.specs.Ways.{giver_number}
use Rattle.evp_crew.specs.Passes.{taken_by, given_by, stone_of, AreOf}

pub record SeatShape : Type 0 where
  -- the number of its actor
  pub number : ℕ
  pub actor : ActorShape
  pub passes : Passes
  -- of which job, cache and crew it is
  pub job : JobShape
  pub cells : Cells
  pub crew : Crew

-- a stone's actor takes from its stone's queue, and a source's from none
abbrev pub TakesFor : Role → Passes → Type 0
TakesFor (feeds work) passes = stone_of passes.take ≡ None
TakesFor (works work unended) passes = stone_of passes.take ≡ Some work.stone

-- What holds of a seat between its turns.
pub record IsSeat (seat : SeatShape) : Type 0 where
  pub cache : IsCacheOf seat.cells seat.job.formats
  pub declared : seat.cells.declared ≡ seat.job.declared
  pub numbered : IsNumbered seat.job seat.number seat.actor.role
  -- the actor has its state by what its passes count
  pub acted : HasActed seat.job seat.cells (taken_by seat.passes.take)
      (given_by seat.job seat.passes.gives.items) seat.actor
  -- the passes are of the crew's queues, and have the actor's routes alone
  pub passes : AreOf seat.crew seat.job seat.passes
  pub takes : TakesFor seat.actor.role seat.passes
  pub gives : (number count : ℕ) (route : Route)
      → given_by seat.job seat.passes.gives.items number ≡ Some count
      → slice_get seat.job.routes number ≡ Some route → giver_number seat.job route ≡ seat.number

-- the seat is of this job, cache and crew
pub record IsOf (job : JobShape) (cells : Cells) (crew : Crew) (seat : SeatShape) : Type 0 where
  pub job_is : seat.job ≡ job
  pub cells_are : seat.cells ≡ cells
  pub crew_is : seat.crew ≡ crew
