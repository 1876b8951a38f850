-- An actor and its port, from the seat on and back to it.
use Rattle.std.proofs.Common.{◌≡◌, ℕ, refl, sym, ap, subst, ◌∙◌}
use Rattle.std.specs.Prelude.{◌⊎◌}
use Rattle.evp_cache.specs.Known.{Cells}
use Rattle.evp_stone.specs.Actor.{ActorShape, HasActed}
use Rattle.evp_stone.specs.JobShape.{JobShape}
use Rattle.evp_stone.proofs.SameActor.{IsSame}
use Rattle.evp_crew.specs.declared.crew.Crew.{Crew}
use Rattle.evp_crew.specs.declared.passes.Passes.{Passes}
use Rattle.evp_crew.specs.declared.three.Three.{Three}
use Rattle.evp_crew.specs.Ends.{PortShape}
use Rattle.evp_crew.specs.Passes.{taken_by, given_by, AreOf}
use Rattle.evp_crew.specs.Rule.{IsOfThree}
use Rattle.evp_crew.specs.Seat.{SeatShape, IsSeat}
use Rattle.evp_crew.specs.Visit.{Sits}
use Rattle.evp_crew.proofs.Seated.{Moves, moved, seat_with, seat_after}

-- the seat with this job, cache and crew
abbrev seat_of_these : SeatShape → JobShape → Cells → Crew → SeatShape
seat_of_these seat job cells crew = record {
  number = seat.number;
  actor = seat.actor;
  passes = seat.passes;
  job = job;
  cells = cells;
  crew = crew;
}

module _ (t : Three) where
  of_these : (seat : SeatShape) → IsOfThree t seat → IsSeat seat → IsSeat (seat_of_these seat t.job t.cache t.crew)
  of_these seat of is =
      subst (λ (w : Crew). IsSeat (seat_of_these seat t.job t.cache w)) of.crew_is
      (subst (λ (k : Cells). IsSeat (seat_of_these seat t.job k seat.crew)) of.cells_are
      (subst (λ (j : JobShape). IsSeat (seat_of_these seat j seat.cells seat.crew)) of.job_is is))

  of_its_own : (seat new : SeatShape) → IsOfThree t seat → IsSeat (seat_of_these new t.job t.cache t.crew)
      → IsSeat (seat_of_these new seat.job seat.cells seat.crew)
  of_its_own seat new of is =
      subst (λ (j : JobShape). IsSeat (seat_of_these new j seat.cells seat.crew)) (sym of.job_is)
      (subst (λ (k : Cells). IsSeat (seat_of_these new t.job k seat.crew)) (sym of.cells_are)
      (subst (λ (w : Crew). IsSeat (seat_of_these new t.job t.cache w)) (sym of.crew_is) is))

  pub sits_down : (seat : SeatShape) (port : PortShape) → IsOfThree t seat → IsSeat seat
      → port ≡ record { crew = t.crew; job = t.job; passes = seat.passes } → Sits t seat.number seat.actor port
  sits_down seat port of is at =
      record {
        job_is = ap (λ (p : PortShape). p.job) at;
        crew_is = ap (λ (p : PortShape). p.crew) at;
        seat = subst (λ (p : Passes). IsSeat (seat_of_these (seat_with seat seat.actor p) t.job t.cache t.crew))
            (sym (ap (λ (p : PortShape). p.passes) at)) (of_these seat of is);
      }

  pub gets_up : (seat : SeatShape) (actor : ActorShape) (port : PortShape) (passes : Passes) → IsOfThree t seat
      → Sits t seat.number actor port → passes ≡ port.passes → IsSeat (seat_with seat actor passes)
  gets_up seat actor port passes of sits at =
      subst (λ (p : Passes). IsSeat (seat_with seat actor p)) (sym at) (of_its_own seat (seat_with seat actor port.passes) of sits.seat)

  module _ (number : ℕ) (actor : ActorShape) (port : PortShape) (sits : Sits t number actor port) where
    pub acts : HasActed t.job t.cache (taken_by port.passes.take) (given_by port.job port.passes.gives.items) actor
    acts =
        subst (λ (j : JobShape). HasActed t.job t.cache (taken_by port.passes.take) (given_by j port.passes.gives.items) actor)
        (sym sits.job_is) sits.seat.acted

    pub sits_on : (new : ActorShape) (later : PortShape) → (later ≡ port) ⊎ Moves port later
        → HasActed t.job t.cache (taken_by later.passes.take) (given_by later.job later.passes.gives.items) new
        → IsSame actor.role new.role → AreOf later.crew later.job later.passes → Sits t number new later
    sits_on new later goes acted same are =
        let began : port ≡ record { crew = t.crew; job = t.job; passes = port.passes } =
        ap (λ (j : JobShape). record { crew = port.crew; job = j; passes = port.passes }) sits.job_is
        ∙ ap (λ (w : Crew). record { crew = w; job = t.job; passes = port.passes }) sits.crew_is in
        let moves = moved port later goes in
        let seat : SeatShape = record {
          number = number;
          actor = actor;
          passes = port.passes;
          job = t.job;
          cells = t.cache;
          crew = t.crew;
        } in
        record {
          job_is = moves.1 ∙ sits.job_is;
          crew_is = moves.0 ∙ sits.crew_is;
          seat = seat_after seat t.job t.cache t.crew new port later later.passes sits.seat
              record { job_is = refl; cells_are = refl; crew_is = refl } began goes acted same are refl;
        }
