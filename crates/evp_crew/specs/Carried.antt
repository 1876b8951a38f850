-- Seats of a whole job, each closed, and what went through its queues.
use Rattle.std.specs.Prelude.{◌≡◌, ℕ, ◌+◌, List, length, Option, Some, slice_get}
use Rattle.evp_cache.specs.Known.{Cells}
use Rattle.evp_graph.specs.declared.route.Route.{Route}
use Rattle.evp_stone.specs.Entries.{flow}
use Rattle.evp_stone.specs.JobShape.{JobShape}
use Rattle.evp_stone.specs.Route.{last_stone}
use Rattle.evp_crew.specs.declared.crew.Crew.{Crew}
use Rattle.evp_crew.specs.declared.three.Three.{Three}
use Rattle.evp_crew.specs.Done.{IsDone}
use Rattle.evp_crew.specs.Parting.{actors_of}
use Rattle.evp_crew.specs.Passes.{taken_by, given_by}
use Rattle.evp_crew.specs.Rota.{three}
use Rattle.evp_crew.specs.Seat.{SeatShape}
use Rattle.evp_crew.specs.Ways.{giver_number}

-- the seat of this number is closed
pub record IsDoneAt (three : Three) (number : ℕ) (seat : SeatShape) : Type 0 where
  pub number_is : seat.number ≡ number
  pub done : IsDone three seat

-- where there is a seat at a place, it is that of this number, and closed
abbrev pub AreSlots : Three → List (Option SeatShape) → Type 0
AreSlots three slots = (place : ℕ) (seat : SeatShape) → slice_get slots place ≡ Some (Some seat)
    → IsDoneAt three place seat

-- one seat for each of the first actors, in order, each closed
pub record AreFirst (three : Three) (count : ℕ) (seats : List SeatShape) : Type 0 where
  pub long : length seats ≡ count
  pub each : (number : ℕ) (seat : SeatShape) → slice_get seats number ≡ Some seat
      → IsDoneAt three number seat

-- the whole flow of a route went through its queue: the seat of the actor that gives on it has
-- given all of it, and the seat of the stone to which it leads has taken all of it
pub record WentThrough (job : JobShape) (seats : List SeatShape) (number : ℕ) (route : Route)
    : Type 0 where
  pub giver : SeatShape
  pub giver_at : slice_get seats (giver_number job route) ≡ Some giver
  pub given : given_by job giver.passes.gives.items number ≡ Some (length (flow job number))
  pub taker : SeatShape
  pub taker_at : slice_get seats (length job.sources + last_stone route) ≡ Some taker
  pub taken : taken_by taker.passes.take number ≡ Some (length (flow job number))

abbrev pub AllWentThrough : JobShape → List SeatShape → Type 0
AllWentThrough job seats = (number : ℕ) (route : Route) → slice_get job.routes number ≡ Some route
    → WentThrough job seats number route

pub record CarriedShape : Type 0 where
  -- of which job, cache and crew the seats are
  pub job : JobShape
  pub cells : Cells
  pub crew : Crew
  pub seats : List SeatShape

-- the job was carried whole: the seats are those of its actors, one for each, in order, each
-- closed, and all of one cache and of the crew beside them, and all flows went through its queues
pub record IsCarried (job : JobShape) (carried : CarriedShape) : Type 0 where
  pub job_is : carried.job ≡ job
  pub whole : AreFirst (three job carried.cells carried.crew) (actors_of job) carried.seats
  pub through : AllWentThrough job carried.seats
