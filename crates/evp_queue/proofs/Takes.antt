-- A take keeps the rule, and tells which entry comes next.
use Rattle.std.proofs.Common.{◌≡◌, ℕ, ◌+◌, ◌≢◌, inr, ⊎_elim, true, false, true≢false, List, ◌∷◌, set, Some, sym, refl, ap, ◌∙◌}
use Rattle.std.proofs.lemmas.Bool.Decides.{eqb_tells}
use Rattle.std.proofs.lemmas.List.Elements.{All-head, All-tail, All-weaker}
use mathlib.Core.Option.{some, some-injective}
use lib.ListN.{get_elem?}
use Rattle.std.specs.List.{slice_get}
use Rattle.crossbeam_queue.specs.Fifo.{Pops, Learns}
use Rattle.crossbeam_queue.proofs.Lists.{at_set, set_else}
use Rattle.evp_queue.specs.Counts.{count_at, IsRoute, raised}
use Rattle.evp_queue.specs.Flow.{Carries}
use Rattle.evp_queue.specs.Rule.{progress, with_counts, IsOpen, Queued, Ruled, Took, Seen}
use Rattle.evp_queue.specs.declared.progress.Progress.{Progress}
use Rattle.evp_queue.proofs.Counts.{raised_here, raised_elsewhere, still_route, was_route}
use Rattle.evp_queue.proofs.Flows.{LeavesFirst, carries_fewer, carries_behind}
use Rattle.evp_queue.proofs.Passes.{set_at, not_open}

module _ {E W Fact : Type 0} (route_of position_of : E → ℕ) (flow : W → ℕ → List Fact) (stands_for : E → Fact → Type 0) where
  module _ (entry : E) (entries : List E) (passes : List (Progress W)) (pass : ℕ) (v : Progress W) (at : get_elem? passes pass ≡ some v)
      (is : v.takes ≡ true)
      (q : Queued route_of position_of flow stands_for (entry ∷ entries) passes) where
    abbrev w : Progress W
    w = with_counts v (raised (route_of entry) v.counts)

    same : progress (Some q.whole) true q.taken ≡ v
    same = some-injective _ v (sym q.take_pass ∙ ap (λ k. get_elem? passes k) (sym (q.one_taker pass v at is)) ∙ at)

    on : IsRoute (route_of entry) q.taken
    on = All-head (λ e. IsRoute (route_of e) q.taken) entry entries q.on_routes

    leaves : LeavesFirst route_of position_of flow stands_for q.whole (route_of entry) on.0 (q.given (route_of entry)) entries entry
    leaves = carries_fewer route_of position_of flow stands_for q.whole (route_of entry) on.0 (q.given (route_of entry)) entries entry
        (q.in_flow (route_of entry) on.0 on.1) refl

    took : Took route_of position_of flow stands_for v entry w
    took =
        let l = leaves in
        let counts : count_at (route_of entry) v.counts ≡ Some (position_of entry) =
        ap (λ (p : Progress W). count_at (route_of entry) p.counts) (sym same) ∙ on.1 ∙ ap (λ (n : ℕ). Some n) (sym l.is) in (
          (
            counts,
            (
              q.whole,
              ap (λ (p : Progress W). p.whole) (sym same),
              (l.fact, ap (λ n. slice_get (flow q.whole (route_of entry)) n) l.is ∙ l.at, l.stands),
            ),
          ),
          refl,
        )

    giver_apart : (route : ℕ) (on : IsRoute route q.taken) → q.giver route ≢ pass
    giver_apart route on e =
        let giver = q.give_pass route on in
        let here : giver.0 ≡ v = some-injective giver.0 v (sym giver.1 ∙ ap (λ k. get_elem? passes k) e ∙ at) in
        true≢false (sym is ∙ ap (λ (p : Progress W). p.takes) (sym here) ∙ giver.2)

    still_given : (route : ℕ) → IsRoute route (raised (route_of entry) q.taken)
        → (u : Progress W) × (get_elem? (set passes pass w) (q.giver route) ≡ some u) × (u.takes ≡ false)
        × (count_at route u.counts ≡ Some (q.given route))
    still_given route now =
        let was = was_route (route_of entry) route q.taken now in
        let giver = q.give_pass route was in
        (giver.0, set_else passes pass (q.giver route) w (giver_apart route was) ∙ giver.1, giver.2, giver.3)

    still_one : (j : ℕ) (u : Progress W) (route : ℕ) → get_elem? (set passes pass w) j ≡ some u → u.takes ≡ false
        → IsRoute route u.counts
        → IsRoute route (raised (route_of entry) q.taken) × (j ≡ q.giver route)
    still_one j u route e gives on' =
        ⊎_elim (λ x. absurd (true≢false (sym is ∙ ap (λ (p : Progress W). p.takes) x.1 ∙ gives)))
        (λ x. let one = q.one_giver j u route x.1 gives on' in (still_route (route_of entry) route q.taken one.0, one.1))
        (at_set passes pass j w u e)

    carries_on : (route count : ℕ) → count_at route (raised (route_of entry) q.taken) ≡ Some count
        → Carries route_of position_of flow stands_for q.whole route count (q.given route) entries
    carries_on route count now =
        ⊎_elim (λ e.
        let next = raised_here (route_of entry) on.0 q.taken on.1 in
        let now' : count_at (route_of entry) (raised (route_of entry) q.taken)
        ≡ Some count = ap (λ r. count_at r (raised (route_of entry) q.taken)) (sym e.1) ∙ now in
        let count_is : on.0 + 1 ≡ count = cc in
        rw (e.1, ← count_is) leaves.others)
        (λ e. carries_behind route_of position_of flow stands_for q.whole route count (q.given route) entries entry
        (q.in_flow route count (sym (raised_elsewhere (route_of entry) route q.taken e.1) ∙ now)) e.1)
        (eqb_tells route (route_of entry))

    taken_one : Queued route_of position_of flow stands_for entries (set passes pass w)
    taken_one = record {
      whole = q.whole;
      taker = q.taker;
      taken = raised (route_of entry) q.taken;
      giver = q.giver;
      given = q.given;
      of_whole = λ j u e. ⊎_elim (λ x. ap (λ (p : Progress W). p.whole) (sym x.1) ∙ q.of_whole pass v at) (λ x. q.of_whole j u x.1)
          (at_set passes pass j w u e);
      take_pass = ap (λ k. get_elem? (set passes pass w) k) (sym (q.one_taker pass v at is)) ∙ set_at passes pass v w at
          ∙ ap (λ (p : Progress W). some (with_counts p (raised (route_of entry) p.counts))) (sym same);
      one_taker = λ j u e takes. ⊎_elim (λ x. x.0 ∙ q.one_taker pass v at is) (λ x. q.one_taker j u x.1 takes)
          (at_set passes pass j w u e);
      give_pass = still_given;
      one_giver = still_one;
      on_routes = All-weaker (λ e. IsRoute (route_of e) q.taken) (λ e. IsRoute (route_of e) (raised (route_of entry) q.taken))
          (λ e. still_route (route_of entry) (route_of e) q.taken) entries
          (All-tail (λ e. IsRoute (route_of e) q.taken) entry entries q.on_routes);
      in_flow = carries_on;
    }

  pub takes : (pass : ℕ) (v : Progress W) → v.takes ≡ true → IsOpen v
      → Pops (Ruled route_of position_of flow stands_for) pass v (Took route_of position_of flow stands_for v)
  takes pass v is open' entry entries passes rule at =
      let w : Progress W = with_counts v (raised (route_of entry) v.counts) in
      ⊎_elim (λ none. absurd (not_open passes pass v none.1 at open'))
      (λ q. (w, inr (taken_one entry entries passes pass v at is q), took entry entries passes pass v at is q))
      rule

  -- what a look at the queue tells
  pub sees : (pass : ℕ) (v : Progress W) → IsOpen v → Learns (Ruled route_of position_of flow stands_for) pass v
      (Seen route_of position_of flow stands_for v)
  sees pass v open' entries passes rule at =
      ⊎_elim (λ none. absurd (not_open passes pass v none.1 at open')) (λ q. (passes, pass, q, at)) rule
