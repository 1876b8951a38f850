-- The passes of a crew's queues while they are parted among its actors.
use Rattle.std.specs.Prelude.{◌≡◌, ℕ, ◌+◌, ◌<◌, ◌≤◌, List, length, Option, Some, None, slice_get}
use Rattle.std.specs.List.{Contains}
use Rattle.evp_cache.specs.Known.{Cells}
use Rattle.evp_graph.specs.declared.route.Route.{Route}
use Rattle.evp_queue.specs.Counts.{count_at}
use Rattle.evp_queue.specs.Passes.{giver_of}
use Rattle.evp_queue.specs.declared.pass.GivePass.{GivePass}
use Rattle.evp_stone.specs.declared.entry.Entry.{Entry}
use Rattle.evp_stone.specs.JobShape.{JobShape}
use Rattle.evp_stone.specs.Opening.{Opens}
use Rattle.evp_stone.specs.Route.{last_stone}
use Rattle.evp_stone.specs.Tallied.{routes_at}
use Rattle.evp_crew.specs.declared.crew.Crew.{Crew}
use Rattle.evp_crew.specs.declared.passes.Passes.{Passes}
use Rattle.evp_crew.specs.declared.passes.Taker.{Taker}
use Rattle.evp_crew.specs.Passes.{Giver, taken_by, given_at, TakesIn, GivesIn}
use Rattle.evp_crew.specs.Seat.{SeatShape, IsOf}
use Rattle.evp_crew.specs.Ways.{giver_number}

-- how many actors a job has
abbrev pub actors_of : JobShape → ℕ
actors_of job = length job.sources + length job.stones

module _ (crew : Crew) (job : JobShape) where
  -- what is left of a stone's give pass: it has the routes of the actors from this number on, and
  -- nothing was given on them
  pub record IsRest (from stone : ℕ) (rest : Giver) : Type 0 where
    pub pass : GivePass Entry JobShape
    pub is : rest ≡ Some pass
    pub of : GivesIn crew job stone pass
    pub counts : (number : ℕ) (route : Route) → slice_get job.routes number ≡ Some route
        → last_stone route ≡ stone → from ≤ giver_number job route
        → count_at number (giver_of pass).counts ≡ Some 0

  pub record AreRests (from : ℕ) (rests : List Giver) : Type 0 where
    pub count : length rests ≡ length job.stones
    pub each : (stone : ℕ) (rest : Giver) → slice_get rests stone ≡ Some rest
        → IsRest from stone rest

  -- an actor's part of it, where it gives to the stone: it has the actor's routes there
  pub record IsShare (actor stone : ℕ) (share : Giver) : Type 0 where
    pub of : (pass : GivePass Entry JobShape) → share ≡ Some pass → GivesIn crew job stone pass
    pub counts : (number : ℕ) (route : Route) → slice_get job.routes number ≡ Some route
        → last_stone route ≡ stone → giver_number job route ≡ actor
        → given_at number (Some share) ≡ Some 0
    pub alone : (number count : ℕ) (route : Route) → given_at number (Some share) ≡ Some count
        → slice_get job.routes number ≡ Some route → giver_number job route ≡ actor

  pub record AreShares (actor : ℕ) (shares : List Giver) : Type 0 where
    pub count : length shares ≡ length job.stones
    pub each : (stone : ℕ) (share : Giver) → slice_get shares stone ≡ Some share
        → IsShare actor stone share

  -- the pass takes the routes that end in the stone, and nothing was taken on them
  pub record TakesAll (stone : ℕ) (take : Option Taker) : Type 0 where
    pub taker : Taker
    pub is : take ≡ Some taker
    pub stone_is : taker.stone ≡ stone
    pub of : TakesIn crew job taker
    pub counts : (number : ℕ) → Contains (routes_at job stone) number
        → taken_by take number ≡ Some 0
    pub alone : (number count : ℕ) → taken_by take number ≡ Some count
        → Contains (routes_at job stone) number

  -- an actor's pass to take: a stone's has all of its stone's routes, and a source's is none
  pub record IsTake (actor : ℕ) (take : Option Taker) : Type 0 where
    pub none : actor < length job.sources → take ≡ None
    pub all : (stone : ℕ) → stone < length job.stones → actor ≡ length job.sources + stone
        → TakesAll stone take

  pub record AreTakes (from : ℕ) (takes : List (Option Taker)) : Type 0 where
    pub count : length takes ≡ actors_of job
    pub each : (actor : ℕ) (take : Option Taker) → slice_get takes actor ≡ Some take
        → from ≤ actor → IsTake actor take

  -- the passes of an actor before its first turn
  pub record IsReady (actor : ℕ) (passes : Passes) : Type 0 where
    pub take : IsTake actor passes.take
    pub gives : AreShares actor passes.gives.items

-- an opening seat of the actor of this number
pub record IsOpening (job : JobShape) (cells : Cells) (crew : Crew) (number : ℕ) (seat : SeatShape)
    : Type 0 where
  pub number_is : seat.number ≡ number
  pub of : IsOf job cells crew seat
  pub opens : Opens job number seat.actor

-- the opening seats of a job's first actors, in the order of actors
pub record AreOpening (job : JobShape) (cells : Cells) (crew : Crew) (count : ℕ)
    (seats : List SeatShape) : Type 0 where
  pub long : length seats ≡ count
  pub each : (number : ℕ) (seat : SeatShape) → slice_get seats number ≡ Some seat
      → IsOpening job cells crew number seat
