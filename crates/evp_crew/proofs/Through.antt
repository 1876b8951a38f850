-- Where the seats of all actors are closed, the whole flow of each route was given and taken.
use Rattle.std.proofs.Common.{◌≡◌, ℕ, ◌+◌, ◌<◌, List, length, Option, Some}
use Rattle.std.proofs.Common.{sym, ap, subst, ◌∙◌, arith}
use Rattle.std.specs.List.{slice_get}
use Rattle.evp_graph.specs.declared.route.Route.{Route}
use Rattle.evp_stone.specs.Accounts.{flow_of}
use Rattle.evp_stone.specs.Actor.{Role, feeds, works, HasRole}
use Rattle.evp_stone.specs.Closed.{IsClosed}
use Rattle.evp_stone.specs.Entries.{flow}
use Rattle.evp_stone.specs.Job.{IsJob}
use Rattle.evp_stone.specs.JobShape.{JobShape}
use Rattle.evp_stone.specs.Opening.{IsNumbered}
use Rattle.evp_stone.specs.Roles.{IsStone}
use Rattle.evp_stone.specs.Route.{last_stone}
use Rattle.evp_stone.proofs.Elements.{there_below}
use Rattle.evp_stone.proofs.GaveAll.{gave, took}
use Rattle.evp_stone.proofs.LastStones.{last_stone_below}
use Rattle.evp_stone.proofs.WholeFlow.{flow_long}
use Rattle.evp_cache.specs.Known.{Cells}
use Rattle.evp_crew.specs.declared.crew.Crew.{Crew}
use Rattle.evp_crew.specs.Carried.{AreFirst, AllWentThrough}
use Rattle.evp_crew.specs.Parting.{actors_of}
use Rattle.evp_crew.specs.Passes.{taken_by, given_by}
use Rattle.evp_crew.specs.Rota.{three}
use Rattle.evp_crew.specs.Seat.{SeatShape}
use Rattle.evp_crew.specs.Ways.{giver_number}
use Rattle.evp_crew.proofs.Givers.{giver_below, gives_on}

module _ (job : JobShape) (is : IsJob job) (number : ℕ) (route : Route) (there : slice_get job.routes number ≡ Some route) where
  -- as many facts as parts
  all_facts : (count : Option ℕ) → count ≡ Some (length (flow_of job route)) → count ≡ Some (length (flow job number))
  all_facts count all = all ∙ ap (λ (n : ℕ). Some n) (sym (flow_long job number route there))

  is_stone : (role : Role) → IsNumbered job (length job.sources + last_stone route) role → IsStone role (last_stone route)
  is_stone (feeds work) numbered = absurd (let below = numbered.0 in omega arith)
  is_stone (works work unended) numbered = let at = numbered.1 in omega arith

module _ (job : JobShape) (is : IsJob job) (cells : Cells) (crew : Crew) (seats : List SeatShape)
    (whole : AreFirst (three job cells crew) (actors_of job) seats) where
  -- the seat of an actor, with what holds of its actor
  record Closed (place : ℕ) : Type 0 where
    seat : SeatShape
    at : slice_get seats place ≡ Some seat
    numbered : IsNumbered job place seat.actor.role
    has : HasRole job (taken_by seat.passes.take) (given_by job seat.passes.gives.items) seat.actor.role
    closed : IsClosed job seat.actor.role

  closed_at : (place : ℕ) → place < actors_of job → Closed place
  closed_at place below =
      let long = whole.long in
      let seat = there_below seats place (omega arith) in
      let done = whole.each place seat.0 seat.1 in
      let kept = done.done.kept in
      let job_is : seat.0.job ≡ job = done.done.of.job_is in
      record {
        seat = seat.0;
        at = seat.1;
        numbered = subst (λ (n : ℕ). IsNumbered job n seat.0.actor.role) done.number_is
            (subst (λ (j : JobShape). IsNumbered j seat.0.number seat.0.actor.role) job_is kept.numbered);
        has = subst (λ (j : JobShape).
            HasRole j (taken_by seat.0.passes.take) (given_by j seat.0.passes.gives.items) seat.0.actor.role) job_is kept.acted.role;
        closed = done.done.closed;
      }

  pub all_went_through : AllWentThrough job seats
  all_went_through number route there =
      let giver = closed_at (giver_number job route) (giver_below job is number route there) in
      let last = last_stone_below job is number route there in
      let taker = closed_at (length job.sources + last_stone route) (omega arith) in
      record {
        giver = giver.seat;
        giver_at = giver.at;
        given = all_facts job is number route there _ (gave job is _ _ number route there giver.seat.actor.role giver.has giver.closed
            (gives_on job is number route there giver.seat.actor.role giver.numbered));
        taker = taker.seat;
        taker_at = taker.at;
        taken = all_facts job is number route there _ (took job is _ _ number route there taker.seat.actor.role taker.has taker.closed
            (is_stone job is number route there taker.seat.actor.role taker.numbered));
      }
