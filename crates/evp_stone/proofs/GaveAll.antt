-- A closed actor has given the whole flow of each route on which it gives, and a closed stone has taken that of each that
-- leads to it.
use Rattle.std.proofs.Common.{◌≡◌, ℕ, ◌+◌, List, [], ◌∷◌, ◌++◌, length, drop, Option, Some, None}
use Rattle.std.proofs.Common.{sym, ap, subst, ◌∙◌, arith, length-drop}
use Rattle.std.proofs.lemmas.Option.{same_Some, slice_get_within}
use Rattle.std.specs.List.{slice_get}
use Rattle.evp_graph.specs.declared.route.Route.{Route}
use Rattle.evp_graph.specs.Shape.{targets_of}
use Rattle.evp_queue.specs.Flow.{Carries}
use Rattle.evp_queue.proofs.Flows.{length-StandFor, length-between}
use Rattle.evp_stone.specs.declared.entry.Entry.{Entry}
use Rattle.evp_stone.specs.Accounts.{flow_of}
use Rattle.evp_stone.specs.Actor.{Role, feeds, works, HasRole}
use Rattle.evp_stone.specs.Closed.{IsClosed}
use Rattle.evp_stone.specs.Entries.{flow, stands_for, route_of, position_of}
use Rattle.evp_stone.specs.Feeding.{SourceWork, HasFed, to_come}
use Rattle.evp_stone.specs.Flow.{Part}
use Rattle.evp_stone.specs.Job.{IsJob}
use Rattle.evp_stone.specs.JobShape.{JobShape, graph_of}
use Rattle.evp_stone.specs.Opening.{GoesOnFrom, GivesOn}
use Rattle.evp_stone.specs.Port.{Counting, LeadsTo}
use Rattle.evp_stone.specs.Roles.{IsStone}
use Rattle.evp_stone.specs.Route.{last_stone}
use Rattle.evp_stone.specs.State.{Outlet, StoneWork, HasState, HasWorked, HasSent, IsAmong, in_hand, round_in}
use Rattle.evp_stone.specs.Turned.{HasEnded}
use Rattle.evp_stone.proofs.Edges.{goes_edge, same_number}
use Rattle.evp_stone.proofs.Elements.{there_below}
use Rattle.evp_stone.proofs.JobFacts.{ends_at}
use Rattle.evp_stone.proofs.Listed.{works_on, ended_at}
use Rattle.evp_stone.proofs.WholeFlow.{all_came}

-- nothing is carried only where as much was taken as given
pub none_between : (job : JobShape) (number taken given : ℕ)
    → Carries route_of position_of flow stands_for job number taken given [] → taken ≡ given
none_between job number taken given carries =
    let none = length-StandFor position_of stands_for taken [] _ carries.stand in
    let long = length-between taken given (flow job number) carries.within in
    let behind = carries.behind in
    omega arith

module _ (job : JobShape) (is : IsJob job) (taken given : Counting) (number : ℕ) (route : Route)
    (there : slice_get job.routes number ≡ Some route) where
  -- so many parts are all of the route's flow
  abbrev All : Option ℕ → Type 0
  All count = count ≡ Some (length (flow_of job route))

  all_of : (like : Route) (other count : ℕ) → other ≡ number → slice_get job.routes other ≡ Some like
      → count ≡ length (flow_of job like) → All (Some count)
  all_of like other count place at all =
      let same : like ≡ route = same_Some like route (sym at ∙ ap (slice_get job.routes) place ∙ there) in
      ap (λ (n : ℕ). Some n) (all ∙ ap (λ (r : Route). length (flow_of job r)) same)

  source_gave : (work : SourceWork) → HasFed job given work → to_come job work ≡ [] → route.source ≡ work.source
      → route.positions ≡ [] → All (given number)
  source_gave work fed none source first =
      let place = same_number job is number work.route route fed.route there fed.there (fed.source ∙ sym source)
      (fed.first ∙ sym first) in
      let rest : length (drop work.given (flow_of job fed.route)) ≡ 0 = ap (λ (l : List Part). length l) (fed.rest ∙ none) in
      let within = fed.within in
      let all : work.given ≡ length (flow_of job fed.route) = omega (arith, length-drop work.given (flow_of job fed.route)) in
      ap given (sym place) ∙ fed.count ∙ all_of fed.route work.route work.given place fed.there all

  module _ (work : StoneWork) (state : HasState job taken given work) (ended : HasEnded job work) where
    module _ (from : GoesOnFrom job work.stone route) where
      leads : LeadsTo job from.number work.stone
      leads = record { route = from.route; there = from.there; last = from.last }

      here : IsAmong work.routes from.number
      here = works_on job taken given work from.number state leads

      was : HasWorked job taken given work.hand work.waiting here.work
      was = state.each here.place here.work here.here

      same : was.route ≡ from.route
      same = same_Some was.route from.route (sym was.there ∙ ap (slice_get job.routes) here.is ∙ from.there)

      outlet : (o : Outlet) × (slice_get here.work.outlets from.position ≡ Some o)
      outlet =
          let edge = goes_edge job is number from.number from.route route from.position from.there there from.goes_on in
          let targets = targets_of (graph_of job).targets (last_stone from.route) in
          let below = slice_get_within targets from.position (last_stone route) edge in
          let long = was.outlets ∙ ap (λ (r : Route). length (targets_of (graph_of job).targets (last_stone r))) same in
          there_below here.work.outlets from.position (omega arith)

      sent : HasSent job given work.waiting was.route (round_in here.work) was.done from.position outlet.0
      sent = was.sent from.position outlet.0 outlet.1

      stone_gave : work.waiting ≡ [] → All (given number)
      stone_gave waiting =
          let place = same_number job is number outlet.0.route route sent.longer there sent.there
          (sent.goes_on.source ∙ ap (λ (r : Route). r.source) same ∙ sym from.goes_on.source)
          (sent.goes_on.positions ∙ ap (λ (r : Route). r.positions ++ from.position ∷ []) same ∙ sym from.goes_on.positions) in
          let none = none_between job outlet.0.route sent.so_far outlet.0.lined
          (subst (λ (l : List Entry). Carries route_of position_of flow stands_for job outlet.0.route sent.so_far outlet.0.lined l)
          waiting sent.waits) in
          let all = all_came job sent.longer (ends_at job is outlet.0.route sent.longer sent.there) (round_in here.work) outlet.0.lined _
          sent.lined (ended_at (length job.rounds) work.routes here.place here.work here.here ended) in
          ap given (sym place) ∙ sent.count ∙ all_of sent.longer outlet.0.route sent.so_far place sent.there (none ∙ all)

    stone_took : last_stone route ≡ work.stone → work.hand ≡ None → All (taken number)
    stone_took last hand =
        let here = works_on job taken given work number state (record { route = route; there = there; last = last }) in
        let was : HasWorked job taken given work.hand work.waiting here.work = state.each here.place here.work here.here in
        let all = all_came job was.route (ends_at job is here.work.route was.route was.there) (round_in here.work) was.handled was.new
        was.came (ended_at (length job.rounds) work.routes here.place here.work here.here ended) in
        ap taken (sym here.is) ∙ was.count ∙ ap (λ (h : Option Entry). Some (was.handled + in_hand here.work.route h)) hand
        ∙ all_of was.route here.work.route (was.handled + 0) here.is was.there (omega arith)

  pub gave : (role : Role) → HasRole job taken given role → IsClosed job role → GivesOn job role route → All (given number)
  gave (feeds work) has closed gives = source_gave work has closed gives.0 gives.1
  gave (works work unended) has closed gives = stone_gave work has.0 closed.2 gives closed.0

  pub took : (role : Role) → HasRole job taken given role → IsClosed job role → IsStone role (last_stone route) → All (taken number)
  took (feeds work) has closed on = absurd on
  took (works work unended) has closed on = stone_took work has.0 closed.2 (sym on) closed.1
