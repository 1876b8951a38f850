-- A seat of an actor that hasn't had a turn.
use Rattle.std.proofs.Common.{◌≡◌, ℕ, ◌+◌, ◌-◌, ◌<◌, length, Option, Some, None, refl, sym, ap, subst, ◌∙◌, arith, get_or}
use Rattle.std.proofs.Common.{inl, inr}
use Rattle.std.specs.Prelude.{◌⊎◌}
use Rattle.std.proofs.lemmas.Option.{slice_get-get_or}
use Rattle.std.specs.List.{slice_get, Contains}
use Rattle.evp_cache.specs.Known.{Cells, IsCacheOf}
use Rattle.evp_graph.specs.declared.route.Route.{Route}
use Rattle.evp_stone.specs.Actor.{Role, feeds, works, ActorShape, HasActed}
use Rattle.evp_stone.specs.Job.{IsJob}
use Rattle.evp_stone.specs.JobShape.{JobShape}
use Rattle.evp_stone.specs.Opening.{IsNumbered, takes_on, IsFresh}
use Rattle.evp_stone.specs.Port.{Counting}
use Rattle.evp_stone.specs.Route.{last_stone}
use Rattle.evp_stone.proofs.LastStones.{last_stone_below}
use Rattle.evp_crew.specs.declared.crew.Crew.{Crew}
use Rattle.evp_crew.specs.declared.passes.Passes.{Passes}
use Rattle.evp_crew.specs.declared.passes.Taker.{Taker}
use Rattle.evp_crew.specs.Parting.{actors_of, IsReady}
use Rattle.evp_crew.specs.Passes.{Giver, taken_by, given_at, given_on, given_by, stone_of, TakesIn, AreOf}
use Rattle.evp_crew.specs.Seat.{TakesFor, IsSeat}
use Rattle.evp_crew.specs.Ways.{giver_number}
use Rattle.evp_crew.proofs.Givers.{giver_of_role}

same_taker : (a b : Taker) → Some a ≡ Some b → a ≡ b
same_taker a b same = cc

module _ (job : JobShape) (is_job : IsJob job) (number : ℕ) where
  module _ (crew : Crew) (passes : Passes) (ready : IsReady crew job number passes) where
    gives_none : (place : ℕ) (route : Route) → slice_get job.routes place ≡ Some route → giver_number job route ≡ number
        → given_by job passes.gives.items place ≡ Some 0
    gives_none place route at giver =
        let target = last_stone route in
        let below = last_stone_below job is_job place route at in
        let count = ready.gives.count in
        let share = get_or passes.gives.items target None in
        let there : slice_get passes.gives.items target ≡ Some share = slice_get-get_or passes.gives.items target None (omega arith) in
        ap (given_on passes.gives.items place) at ∙ ap (given_at place) there
        ∙ (ready.gives.each target share there).counts place route at refl giver

    gives_alone : (place count : ℕ) (route : Route) → given_by job passes.gives.items place ≡ Some count
        → slice_get job.routes place ≡ Some route → giver_number job route ≡ number
    gives_alone place count route is at =
        by_share (slice_get passes.gives.items (last_stone route)) refl (sym (ap (given_on passes.gives.items place) at) ∙ is)
      where
        by_share : (o : Option Giver) → slice_get passes.gives.items (last_stone route) ≡ o → given_at place o ≡ Some count
            → giver_number job route ≡ number
        by_share None there given = absurd (cc)
        by_share (Some share) there given = (ready.gives.each (last_stone route) share there).alone place count route given at

    of_crew : number < actors_of job → AreOf crew job passes
    of_crew below = record {
      takes = λ taker is. taken (split number (length job.sources)) taker is;
      gives = λ target pass is. (ready.gives.each target (Some pass) is).of pass refl;
    }
      where
        split : (n s : ℕ) → (n < s) ⊎ (n ≡ s + (n - s))
        split n s = grind arith

        taken : (number < length job.sources) ⊎ (number ≡ length job.sources + (number - length job.sources)) → (taker : Taker)
            → passes.take ≡ Some taker → TakesIn crew job taker
        taken (inl source) taker is = absurd (let none = ready.take.none source in cc)
        taken (inr stone) taker is =
            let all = ready.take.all (number - length job.sources) (omega arith) stone in
            subst (TakesIn crew job) (same_taker all.taker taker (sym all.is ∙ is)) all.of

    takes_for : (role : Role) → IsNumbered job number role → TakesFor role passes
    takes_for (feeds work) numbered = ap stone_of (ready.take.none (let below = numbered.0 in let is = numbered.1 in omega arith))
    takes_for (works work unended) numbered =
        let all = ready.take.all work.stone numbered.0 numbered.1 in
        ap stone_of all.is ∙ ap (λ (n : ℕ). Some n) all.stone_is

    takes_fresh : (role : Role) → IsNumbered job number role → (place : ℕ) → Contains (takes_on job role) place
        → taken_by passes.take place ≡ Some 0
    takes_fresh (feeds work) numbered place there = absurd (let below = there.1 in omega arith)
    takes_fresh (works work unended) numbered place there = (ready.take.all work.stone numbered.0 numbered.1).counts place there

    takes_alone : (role : Role) → IsNumbered job number role → (place count : ℕ) → taken_by passes.take place ≡ Some count
        → Contains (takes_on job role) place
    takes_alone (feeds work) numbered place count is =
        absurd (let none = ready.take.none (let below = numbered.0 in let at = numbered.1 in omega arith) in
        let no = ap (λ (o : Option Taker). taken_by o place) none in cc)
    takes_alone (works work unended) numbered place count is = (ready.take.all work.stone numbered.0 numbered.1).alone place count is

    fresh : (role : Role) → IsNumbered job number role
        → IsFresh job role (taken_by passes.take) (given_by job passes.gives.items)
    fresh role numbered = record {
      takes = takes_fresh role numbered;
      others = takes_alone role numbered;
      gives = λ place route at gives. gives_none place route at (giver_of_role job is_job place route at number role numbered gives);
    }

    pub seat_opens : (cells : Cells) (actor : ActorShape) → number < actors_of job → IsCacheOf cells job.formats
        → cells.declared ≡ job.declared → IsNumbered job number actor.role
        → ((taken given : Counting) → IsFresh job actor.role taken given → HasActed job cells taken given actor)
        → IsSeat record { number = number; actor = actor; passes = passes; job = job; cells = cells; crew = crew }
    seat_opens cells actor below cache declared numbered acted = record {
      cache = cache;
      declared = declared;
      numbered = numbered;
      acted = acted (taken_by passes.take) (given_by job passes.gives.items) (fresh actor.role numbered);
      passes = of_crew below;
      takes = takes_for actor.role numbered;
      gives = gives_alone;
    }
