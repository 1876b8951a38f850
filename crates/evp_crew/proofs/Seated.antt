-- A seat after a turn of its actor.
use Rattle.std.proofs.Common.{◌≡◌, ℕ, Option, Some, None, refl, sym, ap, subst, ◌∙◌, inl, inr}
use Rattle.std.specs.Prelude.{◌⊎◌, IsSome}
use Rattle.std.proofs.lemmas.Bool.{false≢true}
use Rattle.evp_stone.specs.Actor.{Role, feeds, works, ActorShape, HasActed}
use Rattle.evp_stone.specs.JobShape.{JobShape}
use Rattle.evp_stone.proofs.SameActor.{IsSame, numbered_still}
use Rattle.evp_cache.specs.Known.{Cells}
use Rattle.evp_crew.specs.declared.crew.Crew.{Crew}
use Rattle.evp_crew.specs.declared.passes.Passes.{Passes}
use Rattle.evp_crew.specs.Ends.{PortShape}
use Rattle.evp_crew.specs.Passes.{taken_by, given_by, stone_of, AreOf, Stay}
use Rattle.evp_crew.specs.Seat.{SeatShape, TakesFor, IsSeat, IsOf}

takes_still : (old new : Role) (was passes : Passes) → IsSame old new → stone_of passes.take ≡ stone_of was.take → TakesFor old was
    → TakesFor new passes
takes_still (feeds old) (feeds new) was passes same stone is = stone ∙ is
takes_still (feeds old) (works new unended) was passes same stone is = absurd same
takes_still (works old unended) (feeds new) was passes same stone is = absurd same
takes_still (works old unended) (works new still) was passes same stone is = stone ∙ is ∙ ap (λ (n : ℕ). Some n) (sym same)

counted_one : (o : Option ℕ) → IsSome o → (n : ℕ) × (o ≡ Some n)
counted_one None is = absurd (false≢true is)
counted_one (Some n) is = (n, refl)

-- the seat with its actor and passes as they are now
abbrev pub seat_with : SeatShape → ActorShape → Passes → SeatShape
seat_with seat actor passes = record {
  number = seat.number;
  actor = actor;
  passes = passes;
  job = seat.job;
  cells = seat.cells;
  crew = seat.crew;
}

pub turned_seat : (seat : SeatShape) (actor : ActorShape) (passes : Passes) → IsSeat seat
    → HasActed seat.job seat.cells (taken_by passes.take) (given_by seat.job passes.gives.items) actor
    → IsSame seat.actor.role actor.role → AreOf seat.crew seat.job passes → Stay seat.job seat.passes passes
    → IsSeat (seat_with seat actor passes)
turned_seat seat actor passes is acted same are stay =
    record {
      cache = is.cache;
      declared = is.declared;
      numbered = numbered_still seat.job seat.number seat.actor.role actor.role same is.numbered;
      acted = acted;
      passes = are;
      takes = takes_still seat.actor.role actor.role seat.passes passes same stay.stone is.takes;
      gives = λ number count route given there.
          let was = counted_one (given_by seat.job seat.passes.gives.items number) (stay.given number (subst IsSome (sym given) refl)) in
          is.gives number was.0 route was.1 there;
    }

-- what a turn leaves of its port
abbrev pub Moves : PortShape → PortShape → Type 0
Moves old new = (new.crew ≡ old.crew) × (new.job ≡ old.job) × Stay old.job old.passes new.passes

pub moved : (old new : PortShape) → (new ≡ old) ⊎ Moves old new → Moves old new
moved old new (inl same) =
    subst (Moves old) (sym same) (refl, refl, record { stone = refl; given = λ route is. is })
moved old new (inr moves) = moves

pub seat_after : (seat : SeatShape) (job : JobShape) (cells : Cells) (crew : Crew) (actor : ActorShape) (old new : PortShape)
    (result : Passes) → IsSeat seat → IsOf job cells crew seat → old ≡ record { crew = crew; job = job; passes = seat.passes }
    → (new ≡ old) ⊎ Moves old new
    → HasActed job cells (taken_by new.passes.take) (given_by new.job new.passes.gives.items) actor
    → IsSame seat.actor.role actor.role → AreOf new.crew new.job new.passes → result ≡ new.passes → IsSeat (seat_with seat actor result)
seat_after seat job cells crew actor old new result is of began goes acted same are at =
    let moves = moved old new goes in
    let crew_is : new.crew ≡ seat.crew = moves.0 ∙ ap (λ (p : PortShape). p.crew) began ∙ sym of.crew_is in
    let job_is : new.job ≡ seat.job = moves.1 ∙ ap (λ (p : PortShape). p.job) began ∙ sym of.job_is in
    let from : old.passes ≡ seat.passes = ap (λ (p : PortShape). p.passes) began in
    let stay : Stay seat.job seat.passes new.passes = subst (λ (p : Passes). Stay seat.job p new.passes) from
    (subst (λ (j : JobShape). Stay j old.passes new.passes) (sym moves.1 ∙ job_is) moves.2) in
    let acted' : HasActed seat.job seat.cells (taken_by new.passes.take) (given_by seat.job new.passes.gives.items) actor =
    subst (λ (j : JobShape). HasActed seat.job seat.cells (taken_by new.passes.take) (given_by j new.passes.gives.items) actor) job_is
    (subst (λ (j : JobShape). HasActed j seat.cells (taken_by new.passes.take) (given_by new.job new.passes.gives.items) actor)
    (sym of.job_is)
    (subst (λ (k : Cells). HasActed job k (taken_by new.passes.take) (given_by new.job new.passes.gives.items) actor) (sym of.cells_are)
    acted)) in
    let are' : AreOf seat.crew seat.job new.passes = subst (λ (w : Crew). AreOf w seat.job new.passes) crew_is
    (subst (λ (j : JobShape). AreOf new.crew j new.passes) job_is are) in
    subst (λ (p : Passes). IsSeat (seat_with seat actor p)) (sym at) (turned_seat seat actor new.passes is acted' same are' stay)
