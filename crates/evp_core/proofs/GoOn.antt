-- While some actor isn't closed, some actor can move.
use Rattle.std.proofs.Common.{◌≡◌, ◌⊎◌, ℕ, zero, suc, ◌+◌, ◌<◌, ◌≤◌, List, [], ◌∷◌, length, Some, None}
use Rattle.std.proofs.Common.{refl, sym, ap, subst, ◌∙◌, arith, inl, inr, ⊎_elim}
use Rattle.std.proofs.lemmas.Bool.Decides.{eqb_tells}
use Rattle.std.proofs.lemmas.List.{length-map}
use Rattle.std.proofs.lemmas.Option.{same_Some, slice_get_within}
use Rattle.std.specs.List.{slice_get}
use Rattle.evp_graph.specs.declared.route.Route.{Route}
use Rattle.evp_graph.specs.Routes.{Steps}
use Rattle.evp_graph.specs.Shape.{targets_of}
use Rattle.evp_graph.proofs.Paths.{target_below, length-steps}
use Rattle.evp_stone.specs.declared.entry.Entry.{Entry}
use Rattle.evp_stone.specs.declared.stone.Stone.{Stone}
use Rattle.evp_stone.specs.Actor.{Role, feeds, works, ActorShape, HasRole}
use Rattle.evp_stone.specs.Closed.{IsClosed}
use Rattle.evp_stone.specs.Entries.{route_of}
use Rattle.evp_stone.specs.Feeding.{SourceWork}
use Rattle.evp_stone.specs.Job.{IsJob}
use Rattle.evp_stone.specs.JobShape.{JobShape, graph_of}
use Rattle.evp_stone.specs.Opening.{IsNumbered, GoesOnFrom}
use Rattle.evp_stone.specs.Port.{LeadsTo}
use Rattle.evp_stone.specs.Route.{last_stone}
use Rattle.evp_stone.specs.State.{StoneWork}
use Rattle.evp_stone.proofs.Edges.{first_or_longer, goes_edge, source_below}
use Rattle.evp_stone.proofs.Elements.{there_below}
use Rattle.evp_stone.proofs.LastStones.{last_stone_below}
use Rattle.evp_core.specs.Answers.{StandsIdle}
use Rattle.evp_core.specs.Lists.{ListsShape, IsFull, taken_on, given_on}
use Rattle.evp_core.specs.Moving.{AreClosed, CanGoOn}
use Rattle.evp_core.specs.WorldShape.{WorldShape, HasRules, own_of}
use Rattle.evp_core.proofs.Earlier.{Awaits, awaits, closed_none}
use Rattle.evp_core.proofs.Given.{waits_on}
use Rattle.evp_core.proofs.Givers.{IsShort, unclosed}
use Rattle.evp_core.proofs.ListsKeep.{leads_once}
use Rattle.evp_core.proofs.MovesOn.{moves_on}
use Rattle.evp_core.proofs.Stages.{Stands, StandsBlocked, CanMove, stands}

first_entry : (entries : List Entry) → 0 < length entries → (entry : Entry) × (others : List Entry) × (entries ≡ entry ∷ others)
first_entry [] some = absurd (omega arith)
first_entry (entry ∷ others) some = (entry, others, refl)

no_entry : (entry : Entry) (others : List Entry) → Some [] ≡ Some (entry ∷ others) → ⊥
no_entry entry others same = cc

module _ (world : WorldShape) (rules : HasRules world) (is : IsJob world.lists.job) where
  abbrev lists : ListsShape
  lists = world.lists

  abbrev job : JobShape
  job = world.lists.job

  abbrev targets : List (List ℕ)
  targets = (graph_of job).targets

  same_stones : length targets ≡ length job.stones
  same_stones = length-map job.stones (λ (s : Stone). s.targets)

  -- an actor that can move
  abbrev pub Mover : Type 0
  Mover = (number : ℕ) × (actor : ActorShape) × (slice_get world.actors number ≡ Some actor) × CanMove lists actor.role

  -- the actor of a stone, and of a source
  record StoneActor (stone : ℕ) : Type 0 where
    actor : ActorShape
    there : slice_get world.actors (length job.sources + stone) ≡ Some actor
    work : StoneWork
    unended : ℕ
    role : actor.role ≡ works work unended
    is_stone : work.stone ≡ stone

  record SourceActor (source : ℕ) : Type 0 where
    actor : ActorShape
    there : slice_get world.actors source ≡ Some actor
    work : SourceWork
    role : actor.role ≡ feeds work
    is_source : work.source ≡ source

  stone_role : (stone : ℕ) (actor : ActorShape) → slice_get world.actors (length job.sources + stone) ≡ Some actor
      → (role : Role) → actor.role ≡ role → IsNumbered job (length job.sources + stone) role → StoneActor stone
  stone_role stone actor there (feeds work) same numbered = absurd (let n = numbered.0 in omega arith)
  stone_role stone actor there (works work unended) same numbered = record {
    actor = actor;
    there = there;
    work = work;
    unended = unended;
    role = same;
    is_stone = let n = numbered.1 in omega arith;
  }

  stone_actor : (stone : ℕ) → stone < length targets → StoneActor stone
  stone_actor stone below =
      let count = rules.count in
      let long = same_stones in
      let at = there_below world.actors (length job.sources + stone) (omega arith) in
      stone_role stone at.0 at.1 at.0.role refl (rules.numbered (length job.sources + stone) at.0 at.1)

  source_role : (source : ℕ) (actor : ActorShape) → slice_get world.actors source ≡ Some actor → source < length job.sources
      → (role : Role) → actor.role ≡ role → IsNumbered job source role → SourceActor source
  source_role source actor there below (feeds work) same numbered = record {
    actor = actor;
    there = there;
    work = work;
    role = same;
    is_source = numbered.1;
  }
  source_role source actor there below (works work unended) same numbered = absurd (let n = numbered.1 in omega arith)

  source_actor : (source : ℕ) → source < length job.sources → SourceActor source
  source_actor source below =
      let count = rules.count in
      let at = there_below world.actors source (omega arith) in
      source_role source at.0 at.1 below at.0.role refl (rules.numbered source at.0 at.1)

  has_role : (number : ℕ) (actor : ActorShape) (role : Role) → slice_get world.actors number ≡ Some actor → actor.role ≡ role
      → HasRole job (taken_on lists (own_of role)) (given_on lists) role
  has_role number actor role there same =
      subst (λ (r : Role). HasRole job (taken_on lists (own_of r)) (given_on lists) r) same (rules.acted number actor there).role

  stands_so : (number : ℕ) (actor : ActorShape) (role : Role) → slice_get world.actors number ≡ Some actor → actor.role ≡ role
      → Stands world rules is role
  stands_so number actor role there same = subst (Stands world rules is) same (stands world rules is number actor there)

  mover : (number : ℕ) (actor : ActorShape) (role : Role) → slice_get world.actors number ≡ Some actor → actor.role ≡ role
      → CanMove lists role → Mover
  mover number actor role there same can = (number, actor, there, subst (CanMove lists) (sym same) can)

  -- a blocked stone has its target among the graph's
  blocked_edge : (stone : ℕ) (a : StoneActor stone) (blocked : StandsBlocked lists (works a.work a.unended))
      → (position : ℕ) × (slice_get (targets_of targets stone) position ≡ Some blocked.0)
  blocked_edge stone a blocked =
      let gives = blocked.1 in
      let state = (has_role (length job.sources + stone) a.actor (works a.work a.unended) a.there a.role).0 in
      let on = waits_on job (taken_on lists (Some a.work.stone)) (given_on lists) a.work a.unended gives.0 gives.1 state gives.2 in
      let from = on.gives in
      let edge = goes_edge job is (route_of gives.0) from.number from.route on.route from.position from.there on.there from.goes_on in
      let leads : LeadsTo job (route_of gives.0) (last_stone on.route) = record { route = on.route; there = on.there; last = refl } in
      let same : last_stone on.route ≡ blocked.0 = leads_once job (route_of gives.0) (last_stone on.route) blocked.0 leads gives.3 in (
        from.position,
        ap (λ (s : ℕ). slice_get (targets_of targets s) from.position) (sym (from.last ∙ a.is_stone)) ∙ edge ∙ ap Some same,
      )

  -- a stone with entries in its list can move, or is blocked by another one
  full_step : (stone : ℕ) (a : StoneActor stone) (entries : List Entry) → slice_get lists.lists stone ≡ Some entries → 0 < length entries
      → ((target position : ℕ) → slice_get (targets_of targets stone) position ≡ Some target → IsFull lists target → Mover)
      → Stands world rules is (works a.work a.unended) → Mover
  full_step stone a entries at some onward (inl closed) =
      let state = (has_role (length job.sources + stone) a.actor (works a.work a.unended) a.there a.role).0 in
      let first = first_entry entries some in
      absurd (closed_none lists rules.lists is a.work state closed.1 closed.2 first.0 first.1
      (ap (slice_get lists.lists) a.is_stone ∙ at ∙ ap Some first.2))
  full_step stone a entries at some onward (inr (inl idle)) =
      let first = first_entry entries some in
      absurd (no_entry first.0 first.1 (sym idle.1 ∙ ap (slice_get lists.lists) a.is_stone ∙ at ∙ ap Some first.2))
  full_step stone a entries at some onward (inr (inr (inl blocked))) =
      let edge = blocked_edge stone a blocked in onward blocked.0 edge.0 edge.1 blocked.2
  full_step stone a entries at some onward (inr (inr (inr can))) =
      mover (length job.sources + stone) a.actor (works a.work a.unended) a.there a.role can

  from_full : (fuel stone : ℕ) → stone < length targets
      → ((positions stones : List ℕ) → Steps targets stone positions stones → length stones < fuel)
      → IsFull lists stone → Mover
  from_full zero stone below paths full = absurd (let none = paths [] [] tt in omega arith)
  from_full (suc fuel) stone below paths full =
      let a = stone_actor stone below in
      let queue = is.limits.queue.0 in
      let long = full.2 in
      full_step stone a full.0 full.1 (omega arith)
      (λ target position edge more. from_full fuel target (target_below targets is.sound.targets stone position target below edge)
      (λ positions stones steps. let fewer = paths (position ∷ positions) (target ∷ stones) (edge, steps) in omega arith) more)
      (stands_so (length job.sources + stone) a.actor (works a.work a.unended) a.there a.role)

  -- where a list is full, some actor can move
  pub full_moves : (stone : ℕ) → IsFull lists stone → Mover
  full_moves stone full =
      let within = slice_get_within lists.lists stone full.0 full.1 in
      let long = rules.lists.stones in
      let same = same_stones in
      let below : stone < length targets = omega arith in
      from_full (length targets) stone below
      (λ positions stones steps. length-steps targets is.sound.targets is.sound.acyclic stone positions stones below steps) full

  short_of : (work : StoneWork) (state : _) (hand : work.hand ≡ None) (waits : Awaits lists rules.lists is work state hand)
      → IsShort job (given_on lists) waits.number waits.route
  short_of work state hand waits = record { there = waits.there; count = waits.count; gives = waits.gives; below = waits.below }

  -- the source of a route that isn't whole moves, or some actor does where it is blocked
  source_step : (number : ℕ) (route : Route) → IsShort job (given_on lists) number route → (a : SourceActor route.source)
      → route.positions ≡ [] → Stands world rules is (feeds a.work) → Mover
  source_step number route short a none (inl closed) =
      let fed = has_role route.source a.actor (feeds a.work) a.there a.role in
      absurd (unclosed job is (taken_on lists None) (given_on lists) number route short (feeds a.work) fed (sym a.is_source, none) closed)
  source_step number route short a none (inr (inl idle)) = absurd idle
  source_step number route short a none (inr (inr (inl blocked))) = full_moves blocked.0 blocked.2
  source_step number route short a none (inr (inr (inr can))) = mover route.source a.actor (feeds a.work) a.there a.role can

  -- so does the stone before, unless it is idle too
  stone_step : (number : ℕ) (route : Route) → IsShort job (given_on lists) number route → (stone : ℕ) → GoesOnFrom job stone route
      → (a : StoneActor stone) → (StandsIdle lists (works a.work a.unended) → Mover)
      → Stands world rules is (works a.work a.unended) → Mover
  stone_step number route short stone from a onward (inl closed) =
      let has = has_role (length job.sources + stone) a.actor (works a.work a.unended) a.there a.role in
      absurd (unclosed job is (taken_on lists (Some a.work.stone)) (given_on lists) number route short (works a.work a.unended) has
      (subst (λ (s : ℕ). GoesOnFrom job s route) (sym a.is_stone) from) closed)
  stone_step number route short stone from a onward (inr (inl idle)) = onward idle
  stone_step number route short stone from a onward (inr (inr (inl blocked))) = full_moves blocked.0 blocked.2
  stone_step number route short stone from a onward (inr (inr (inr can))) =
      mover (length job.sources + stone) a.actor (works a.work a.unended) a.there a.role can

  from_idle : (fuel stone : ℕ) → stone < length targets → (positions stones : List ℕ) → Steps targets stone positions stones
      → length targets ≤ fuel + length stones → (a : StoneActor stone) → StandsIdle lists (works a.work a.unended) → Mover
  from_idle zero stone below positions stones steps far a idle =
      absurd (let few = length-steps targets is.sound.targets is.sound.acyclic stone positions stones below steps in omega arith)
  from_idle (suc fuel) stone below positions stones steps far a idle =
      let state = (has_role (length job.sources + stone) a.actor (works a.work a.unended) a.there a.role).0 in
      let waits = awaits lists rules.lists is a.work state idle.0.hand idle.0.unended idle.1 in
      let short = short_of a.work state idle.0.hand waits in
      ⊎_elim
      (λ none.
      let source = source_actor waits.route.source (source_below job is waits.number waits.route waits.there) in
      source_step waits.number waits.route short source none
      (stands_so waits.route.source source.actor (feeds source.work) source.there source.role))
      (λ before.
      let from = before.1 in
      let within = last_stone_below job is from.number from.route from.there in
      let last = from.last in
      let same = same_stones in
      let under : before.0 < length targets = omega arith in
      let earlier = stone_actor before.0 under in
      let edge : slice_get (targets_of targets before.0) from.position ≡ Some stone =
      ap (λ (s : ℕ). slice_get (targets_of targets s) from.position) (sym last)
      ∙ goes_edge job is waits.number from.number from.route waits.route from.position from.there waits.there from.goes_on
      ∙ ap Some (waits.last ∙ a.is_stone) in
      stone_step waits.number waits.route short before.0 from earlier
      (λ more. from_idle fuel before.0 under (from.position ∷ positions) (stone ∷ stones) (edge, steps) (omega arith) earlier more)
      (stands_so (length job.sources + before.0) earlier.actor (works earlier.work earlier.unended) earlier.there earlier.role))
      (first_or_longer job is waits.number waits.route waits.there)

  -- where a stone is idle, some actor can move
  idle_moves : (number : ℕ) (actor : ActorShape) → slice_get world.actors number ≡ Some actor → (role : Role) → actor.role ≡ role
      → IsNumbered job number role → StandsIdle lists role → Mover
  idle_moves number actor there (feeds work) same numbered idle = absurd idle
  idle_moves number actor there (works work unended) same numbered idle =
      let stones = same_stones in
      let below : work.stone < length targets = let n = numbered.0 in omega arith in
      let a : StoneActor work.stone = record {
        actor = actor;
        there = ap (slice_get world.actors) (sym numbered.1) ∙ there;
        work = work;
        unended = unended;
        role = same;
        is_stone = refl;
      } in
      from_idle (length targets) work.stone below [] [] tt (omega arith) a idle

  abbrev ClosedBelow : ℕ → Type 0
  ClosedBelow bound = (number : ℕ) (actor : ActorShape) → number < bound → slice_get world.actors number ≡ Some actor
      → IsClosed job actor.role

  one_more : (bound : ℕ) (actor : ActorShape) → slice_get world.actors bound ≡ Some actor → ClosedBelow bound
      → Stands world rules is actor.role → ClosedBelow (suc bound) ⊎ Mover
  one_more bound actor there closed (inl here) =
      inl (λ number other below at. ⊎_elim
      (λ e. subst (λ (o : ActorShape). IsClosed job o.role) (same_Some actor other (sym there ∙ ap (slice_get world.actors) (sym e.1)
      ∙ at)) here)
      (λ e. let apart = e.1 in closed number other (omega arith) at)
      (eqb_tells number bound))
  one_more bound actor there closed (inr (inl idle)) =
      inr (idle_moves bound actor there actor.role refl (rules.numbered bound actor there) idle)
  one_more bound actor there closed (inr (inr (inl blocked))) = inr (full_moves blocked.0 blocked.2)
  one_more bound actor there closed (inr (inr (inr can))) = inr (bound, actor, there, can)

  closed_or : (bound : ℕ) → bound ≤ length world.actors → ClosedBelow bound ⊎ Mover
  closed_or zero within = inl (λ number actor below at. absurd (omega arith))
  closed_or (suc bound) within =
      let there = there_below world.actors bound (omega arith) in
      ⊎_elim (λ closed. one_more bound there.0 there.1 closed (stands world rules is bound there.0 there.1)) inr
      (closed_or bound (omega arith))

  -- all actors are closed, or one can move
  pub closed_or_moves : AreClosed world ⊎ Mover
  closed_or_moves =
      ⊎_elim (λ closed. inl (λ number actor at. closed number actor (slice_get_within world.actors number actor at) at)) inr
      (closed_or (length world.actors) (omega arith))

  -- all are closed, or one moves in its next turn
  pub goes_on : CanGoOn world
  goes_on =
      ⊎_elim inl (λ m. inr (m.0, (m.1, m.2), moves_on world m.0 m.1 m.2 m.3)) closed_or_moves
