-- A stone works on each route that leads to it: its number is among those of the stone's routes.
use Rattle.std.proofs.Common.{◌≡◌, ℕ, zero, suc, ◌+◌, true, List, [], ◌∷◌, Some}
use Rattle.std.proofs.Common.{refl, sym, ap, ◌∙◌, ⊎_elim, arith}
use Rattle.std.specs.Prelude.{◌==◌}
use Rattle.std.proofs.lemmas.Bool.{eq-eqb}
use Rattle.std.proofs.lemmas.Bool.Decides.{eqb_tells}
use Rattle.std.proofs.lemmas.Option.{slice_get_within, get_or_from_slice_get, slice_get-get_or}
use Rattle.std.specs.List.{slice_get, Contains, AllByRecursion}
use Rattle.evp_graph.specs.declared.route.Route.{Route}
use Rattle.evp_stone.specs.JobShape.{JobShape}
use Rattle.evp_stone.specs.Port.{Counting, LeadsTo}
use Rattle.evp_stone.specs.Route.{last_stone}
use Rattle.evp_stone.specs.State.{RouteWork, StoneWork, HasState, IsAmong, numbers_of, round_in}
use Rattle.evp_stone.specs.Tallied.{ending_from, routes_at}
use Rattle.evp_stone.proofs.Apart.{end_at}

listed_from : (stone first : ℕ) (routes : List Route) (place : ℕ) (route : Route) → slice_get routes place ≡ Some route
    → last_stone route ≡ stone → (k : ℕ) × (slice_get (ending_from stone first routes) k ≡ Some (first + place))
listed_from stone first [] place route at last = absurd (cc)
listed_from stone first (r ∷ routes) zero route at last =
    let here : (last_stone r == stone) ≡ true = eq-eqb (last_stone r) stone (ap last_stone (let s : r ≡ route = cc in s) ∙ last) in
    (0, rw here (ap (λ (n : ℕ). Some n) (omega arith)))
listed_from stone first (r ∷ routes) (suc place) route at last =
    let more = listed_from stone (first + 1) routes place route at last in
    ⊎_elim (λ e. (suc more.0, rw e.0 (more.1 ∙ ap (λ (n : ℕ). Some n) (omega arith))))
    (λ e. (more.0, rw e.0 (more.1 ∙ ap (λ (n : ℕ). Some n) (omega arith))))
    (eqb_tells (last_stone r) stone)

module _ (job : JobShape) (stone number : ℕ) where
  -- the number of a route that leads to the stone is listed
  listed_at : LeadsTo job number stone → (k : ℕ) × (slice_get (routes_at job stone) k ≡ Some number)
  listed_at leads =
      let there = listed_from stone 0 job.routes number leads.route leads.there leads.last in
      (there.0, there.1 ∙ ap (λ (n : ℕ). Some n) (omega arith))

  pub listed : LeadsTo job number stone → Contains (routes_at job stone) number
  listed leads =
      let there = listed_at leads in
      let numbers = routes_at job stone in
      (there.0, slice_get_within numbers there.0 number there.1, get_or_from_slice_get numbers there.0 number number there.1)

  -- and one that is listed leads to it
  pub leads_there : Contains (routes_at job stone) number → LeadsTo job number stone
  leads_there there =
      let at : slice_get (routes_at job stone) there.0 ≡ Some number =
      slice_get-get_or (routes_at job stone) there.0 number there.1 ∙ ap (λ (n : ℕ). Some n) there.2 in
      let end = end_at stone 0 job.routes there.0 number at in
      record {
        route = end.route;
        there = ap (slice_get job.routes) (let e = end.is in omega arith) ∙ end.there;
        last = end.last;
      }

work_of : (list : List RouteWork) (place number : ℕ) → slice_get (numbers_of list) place ≡ Some number → IsAmong list number
work_of [] place number at = absurd (cc)
work_of (w ∷ list) zero number at = record { place = 0; work = w; here = refl; is = cc }
work_of (w ∷ list) (suc place) number at =
    let more = work_of list place number at in
    record { place = suc more.place; work = more.work; here = more.here; is = more.is }

pub works_on : (job : JobShape) (taken given : Counting) (work : StoneWork) (number : ℕ) → HasState job taken given work
    → LeadsTo job number work.stone → IsAmong work.routes number
works_on job taken given work number state leads =
    let there = listed_at job work.stone number leads in
    work_of work.routes there.0 number (ap (λ (l : List ℕ). slice_get l there.0) state.numbers ∙ there.1)

-- each route of a stone whose rounds have all ended is in the last
pub ended_at : (rounds : ℕ) (list : List RouteWork) (place : ℕ) (here : RouteWork) → slice_get list place ≡ Some here
    → AllByRecursion (λ (work : RouteWork). round_in work ≡ rounds) list → round_in here ≡ rounds
ended_at rounds [] place here at all = absurd (cc)
ended_at rounds (w ∷ list) zero here at all =
    let same : w ≡ here = cc in ap round_in (sym same) ∙ all.0
ended_at rounds (w ∷ list) (suc place) here at all = ended_at rounds list place here at all.1
