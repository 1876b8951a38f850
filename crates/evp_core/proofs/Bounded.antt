-- Four turns for each entry are the most.
use Rattle.std.proofs.Common.{◌≡◌, ℕ, suc, ◌*◌, ◌≤◌, List, [], ◌∷◌, length, Some, refl, arith}
use Rattle.std.proofs.lemmas.List.Sums.{sum_by-cons}
use Rattle.std.specs.List.{slice_get, sum, sum_by}
use Rattle.evp_graph.specs.declared.route.Route.{Route}
use Rattle.evp_stone.specs.Job.{IsJob}
use Rattle.evp_stone.specs.JobShape.{JobShape}
use Rattle.evp_stone.specs.Port.{LeadsTo}
use Rattle.evp_stone.specs.Route.{last_stone}
use Rattle.evp_stone.proofs.Bounds.{submitted_flow}
use Rattle.evp_stone.proofs.Elements.{there_below}
use Rattle.evp_stone.proofs.JobFacts.{ends_at}
use Rattle.evp_stone.proofs.LastStones.{leads_below}
use Rattle.evp_stone.proofs.WholeFlow.{flow_long}
use Rattle.evp_core.specs.Lists.{ListsShape, HasLists}
use Rattle.evp_core.specs.Progress.{counted_turns}
use Rattle.evp_core.specs.Turns.{entries_on, entries_in}
use Rattle.evp_core.proofs.ListsKeep.{taken_there, given_there}

sum_below : {X : Type 0} (f : X → ℕ) (xs : List ℕ) (ys : List X) → length xs ≡ length ys
    → ((k x : ℕ) (y : X) → slice_get xs k ≡ Some x → slice_get ys k ≡ Some y → x ≤ f y) → sum xs ≤ sum_by f ys
sum_below f [] [] same each = omega arith
sum_below f [] (y ∷ ys) same each = absurd (omega arith)
sum_below f (x ∷ xs) [] same each = absurd (omega arith)
sum_below f (x ∷ xs) (y ∷ ys) same each =
    let here = each 0 x y refl refl in
    let rest = sum_below f xs ys (omega arith) (λ k a b at there. each (suc k) a b at there) in
    omega (arith, sum_by-cons (λ (n : ℕ). n) x xs, sum_by-cons f y ys)

module _ (lists : ListsShape) (has : HasLists lists) (is : IsJob lists.job) where
  abbrev job : JobShape
  job = lists.job

  -- what was taken was given, and what was given is of the flow
  both_below : (number : ℕ) (route : Route) → slice_get job.routes number ≡ Some route
      → (taken given : ℕ) → slice_get lists.taken number ≡ Some taken → slice_get lists.given number ≡ Some given
      → (taken ≤ entries_on job route) × (given ≤ entries_on job route)
  both_below number route at taken given takes gives =
      let leads : LeadsTo job number (last_stone route) = record { route = route; there = at; last = refl } in
      let below = leads_below job is number (last_stone route) leads in
      let stones = has.stones in
      let list = there_below lists.lists (last_stone route) (omega arith) in
      let carries = (has.each (last_stone route) list.0 list.1).carries number leads taken given takes gives in
      let short = submitted_flow job is route (ends_at job is number route at) in
      let long = flow_long job number route at in
      let within = carries.within in
      let behind = carries.behind in
      (omega arith, omega arith)

  leads_at : (number : ℕ) (route : Route) → slice_get job.routes number ≡ Some route → LeadsTo job number (last_stone route)
  leads_at number route at = record { route = route; there = at; last = refl }

  pub few_turns : counted_turns lists ≤ 4 * entries_in job
  few_turns =
      let gives = sum_below (λ (route : Route). entries_on job route) lists.given job.routes has.given
      (λ k x route at there. let takes = taken_there lists has k (last_stone route) (leads_at k route there) in
      (both_below k route there takes.0 x takes.1 at).1) in
      let takes = sum_below (λ (route : Route). entries_on job route) lists.taken job.routes has.taken
      (λ k x route at there. let gives = given_there lists has k (last_stone route) (leads_at k route there) in
      (both_below k route there x gives.0 at gives.1).0) in
      omega arith
