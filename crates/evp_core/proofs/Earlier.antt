-- A stone whose list isn't empty isn't closed. Behind an idle stone's empty list stands an earlier actor that isn't closed.
use Rattle.std.proofs.Common.{◌≡◌, ℕ, ◌+◌, ◌<◌, List, [], ◌∷◌, length, Option, Some, None}
use Rattle.std.proofs.Common.{refl, sym, ap, ◌∙◌, arith, ⊎_elim, eq-eqb}
use Rattle.std.proofs.lemmas.Option.{same_Some, slice_get_within}
use Rattle.std.specs.Prelude.{if◌then◌else◌, Bool}
use Rattle.std.specs.List.{slice_get}
use Rattle.evp_graph.specs.declared.route.Route.{Route}
use Rattle.evp_queue.proofs.Flows.{carries_fewer}
use Rattle.evp_stone.specs.declared.entry.Entry.{Entry}
use Rattle.evp_stone.specs.Accounts.{flow_of}
use Rattle.evp_stone.specs.Entries.{flow, stands_for, route_of, position_of}
use Rattle.evp_stone.specs.Job.{IsJob}
use Rattle.evp_stone.specs.JobShape.{JobShape}
use Rattle.evp_stone.specs.Port.{LeadsTo}
use Rattle.evp_stone.specs.Route.{last_stone}
use Rattle.evp_stone.specs.State.{RouteWork, StoneWork, HasState, HasWorked, round_in, in_hand}
use Rattle.evp_stone.specs.Turned.{HasEnded}
use Rattle.evp_stone.proofs.Apart.{its_last}
use Rattle.evp_stone.proofs.GaveAll.{none_between}
use Rattle.evp_stone.proofs.JobFacts.{ends_at}
use Rattle.evp_stone.proofs.Listed.{ended_at}
use Rattle.evp_stone.proofs.WholeFlow.{flow_long, all_came, more_comes}
use Rattle.evp_core.specs.Lists.{ListsShape, HasLists, IsEmpty, where_ends, taken_on, given_on}
use Rattle.evp_core.proofs.ListsKeep.{taken_there, given_there}
use Rattle.evp_core.proofs.Stages.{HasMore, ended_or}

-- the count of a route that ends in the stone
pub taken_is : (lists : ListsShape) (stone number count : ℕ) → LeadsTo lists.job number stone → slice_get lists.taken number ≡ Some count
    → taken_on lists (Some stone) number ≡ Some count
taken_is lists stone number count leads takes =
    ap (λ (r : Option Route). where_ends stone r (slice_get lists.taken number)) leads.there
    ∙ ap (λ (b : Bool). if b then slice_get lists.taken number else None) (eq-eqb (last_stone leads.route) stone leads.last) ∙ takes

module _ (lists : ListsShape) (has : HasLists lists) (is_job : IsJob lists.job) (work : StoneWork)
    (state : HasState lists.job (taken_on lists (Some work.stone)) (given_on lists) work) (hand : work.hand ≡ None) where
  abbrev job : JobShape
  job = lists.job

  abbrev Was : RouteWork → Type 0
  Was here = HasWorked job (taken_on lists (Some work.stone)) (given_on lists) work.hand work.waiting here

  -- what was taken is dealt with
  handled_is : (here : RouteWork) (was : Was here) (count : ℕ) → taken_on lists (Some work.stone) here.route ≡ Some count
      → was.handled ≡ count
  handled_is here was count takes =
      let both : was.handled + 0 ≡ count = same_Some (was.handled + 0) count
      (ap (λ (h : Option Entry). Some (was.handled + in_hand here.route h)) (sym hand) ∙ sym was.count ∙ takes) in omega arith

  -- where all rounds have ended nothing is left in its list
  pub closed_none : HasEnded job work → (entry : Entry) (others : List Entry)
      → slice_get lists.lists work.stone ≡ Some (entry ∷ others) → ⊥
  closed_none ended entry others at =
      let rule = has.each work.stone (entry ∷ others) at in
      let leads : LeadsTo job (route_of entry) work.stone = rule.on.0 in
      let takes = taken_there lists has (route_of entry) work.stone leads in
      let gives = given_there lists has (route_of entry) work.stone leads in
      let first = carries_fewer route_of position_of flow stands_for job (route_of entry) takes.0 gives.0 others entry
      (rule.carries (route_of entry) leads takes.0 gives.0 takes.1 gives.1) refl in
      let within = slice_get_within (flow job (route_of entry)) takes.0 first.fact first.at in
      let count = taken_is lists work.stone (route_of entry) takes.0 leads takes.1 in
      let among = state.port (route_of entry) takes.0 count in
      let was : Was among.work = state.each among.place among.work among.here in
      let there : slice_get job.routes (route_of entry) ≡ Some was.route = ap (slice_get job.routes) (sym among.is) ∙ was.there in
      let all = all_came job was.route (ends_at job is_job among.work.route was.route was.there) (round_in among.work) was.handled was.new
      was.came (ended_at (length job.rounds) work.routes among.place among.work among.here ended) in
      let handled = handled_is among.work was takes.0 (ap (taken_on lists (Some work.stone)) among.is ∙ count) in
      let long = flow_long job (route_of entry) was.route there in
      omega arith

  -- a route of which more is to come than was given
  pub record Awaits : Type 0 where
    pub number : ℕ
    pub route : Route
    pub there : slice_get job.routes number ≡ Some route
    pub last : last_stone route ≡ work.stone
    pub count : ℕ
    pub gives : slice_get lists.given number ≡ Some count
    pub below : count < length (flow_of job route)

  awaits_at : IsEmpty lists work.stone → HasMore (length job.rounds) work.routes → Awaits
  awaits_at empty more =
      let was : Was more.here = state.each more.place more.here more.at in
      let last = its_last job work.stone work.routes more.place more.here was.route state.numbers more.at was.there in
      let leads : LeadsTo job more.here.route work.stone = record { route = was.route; there = was.there; last = last } in
      let takes = taken_there lists has more.here.route work.stone leads in
      let gives = given_there lists has more.here.route work.stone leads in
      let rule = has.each work.stone [] empty in
      let same = none_between job more.here.route takes.0 gives.0 (rule.carries more.here.route leads takes.0 gives.0 takes.1 gives.1) in
      let handled = handled_is more.here was takes.0 (taken_is lists work.stone more.here.route takes.0 leads takes.1) in
      let rounds = was.rounds in
      let apart = more.more in
      let fewer : round_in more.here < length job.rounds = omega arith in
      let below = more_comes job was.route (ends_at job is_job more.here.route was.route was.there) (round_in more.here)
      was.handled was.new
      was.came fewer in
      record {
        number = more.here.route;
        route = was.route;
        there = was.there;
        last = last;
        count = gives.0;
        gives = gives.1;
        below = omega arith;
      }

  -- an idle stone has such a route
  pub awaits : (HasEnded job work → ⊥) → IsEmpty lists work.stone → Awaits
  awaits unended empty =
      ⊎_elim (λ ended. absurd (unended ended)) (λ more. awaits_at empty more) (ended_or (length job.rounds) work.routes)
