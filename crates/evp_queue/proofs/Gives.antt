-- A give keeps the rule.
use Rattle.std.proofs.Common.{◌≡◌, ℕ, ◌+◌, ◌≢◌, inr, ⊎_elim, true, false, true≢false, cond, List, [], ◌∷◌, ◌++◌, set, Some, sym, refl}
use Rattle.std.proofs.Common.{ap, ◌∙◌, subst, eqb}
use Rattle.std.proofs.lemmas.Bool.Decides.{eqb_tells}
use Rattle.std.proofs.lemmas.List.Elements.{All-push}
use mathlib.Core.Option.{some, some-injective}
use lib.ListN.{get_elem?}
use Rattle.crossbeam_queue.specs.Fifo.{Pushes}
use Rattle.crossbeam_queue.proofs.Lists.{at_set, set_else}
use Rattle.std.specs.List.{slice_get}
use Rattle.evp_queue.specs.Counts.{count_at, IsRoute, raised}
use Rattle.evp_queue.specs.Flow.{Carries}
use Rattle.evp_queue.specs.Rule.{progress, with_counts, Queued, Ruled, IsNext}
use Rattle.evp_queue.specs.declared.progress.Progress.{Progress}
use Rattle.evp_queue.proofs.Counts.{raised_here, raised_elsewhere, was_route}
use Rattle.evp_queue.proofs.Flows.{carries_more, carries_still}
use Rattle.evp_queue.proofs.Passes.{set_at, not_open}

module _ {E W Fact : Type 0} (route_of position_of : E → ℕ) (flow : W → ℕ → List Fact) (stands_for : E → Fact → Type 0) where
  -- what the rule says of the next entry of a give pass
  record Next (entries : List E) (passes : List (Progress W)) (q : Queued route_of position_of flow stands_for entries passes)
      (pass : ℕ) (v : Progress W) (entry : E) : Type 0 where
    on : IsRoute (route_of entry) q.taken
    giver : q.giver (route_of entry) ≡ pass
    counted : count_at (route_of entry) v.counts ≡ Some (q.given (route_of entry))
    count : position_of entry ≡ q.given (route_of entry)
    fact : Fact
    at : slice_get (flow q.whole (route_of entry)) (q.given (route_of entry)) ≡ Some fact
    stands : stands_for entry fact

  next_of : (entries : List E) (passes : List (Progress W)) (q : Queued route_of position_of flow stands_for entries passes) (pass : ℕ)
      (v : Progress W) (entry : E)
      → get_elem? passes pass ≡ some v → v.takes ≡ false → IsNext route_of position_of flow stands_for v entry
      → Next entries passes q pass v entry
  next_of entries passes q pass v entry at gives next =
      let route : ℕ = route_of entry in
      let one = q.one_giver pass v route at gives (position_of entry, next.0) in
      let giver = q.give_pass route one.0 in
      let same : giver.0 ≡ v = some-injective giver.0 v (sym giver.1 ∙ ap (λ k. get_elem? passes k) (sym one.1) ∙ at) in
      let counted : count_at route v.counts ≡ Some (q.given route) = ap (λ (p : Progress W). count_at route p.counts) (sym same)
      ∙ giver.3 in
      let count : position_of entry ≡ q.given route = let n = next.0 in cc in
      let whole : next.1.0 ≡ q.whole = let n = next.1.1 in let o = q.of_whole pass v at in cc in
      record {
        on = one.0;
        giver = sym one.1;
        counted = counted;
        count = count;
        fact = next.1.2.0;
        at = subst (λ (x : W × ℕ). slice_get (flow x.0 route) x.1 ≡ Some next.1.2.0) (λ i. (whole i, count i)) next.1.2.1;
        stands = next.1.2.2;
      }

  -- the counts of the givers after the give
  abbrev more_at : (ℕ → ℕ) → ℕ → ℕ → ℕ
  more_at given route other = cond (eqb other route) (given other + 1) (given other)

  module _ (entries : List E) (passes : List (Progress W)) (pass : ℕ) (v : Progress W) (entry : E) (at : get_elem? passes pass ≡ some v)
      (is : v.takes ≡ false)
      (q : Queued route_of position_of flow stands_for entries passes) (next : Next entries passes q pass v entry) where
    abbrev w : Progress W
    w = with_counts v (raised (route_of entry) v.counts)

    taker_apart : q.taker ≢ pass
    taker_apart e =
        let same : progress (Some q.whole) true q.taken ≡ v = some-injective _ v (sym q.take_pass ∙ ap (λ k. get_elem? passes k) e ∙ at)
        in
        true≢false (ap (λ (p : Progress W). p.takes) same ∙ is)

    gave_pass : (route : ℕ) → IsRoute route q.taken
        → (u : Progress W) × (get_elem? (set passes pass w) (q.giver route) ≡ some u) × (u.takes ≡ false)
        × (count_at route u.counts ≡ Some (more_at q.given (route_of entry) route))
    gave_pass route on =
        let giver = q.give_pass route on in
        ⊎_elim (λ e. (
          w,
          ap (λ k. get_elem? (set passes pass w) k) (ap q.giver e.1 ∙ next.giver) ∙ set_at passes pass v w at,
          is,
          rw (e.0, e.1) (raised_here (route_of entry) (q.given (route_of entry)) v.counts next.counted),
        ))
        (λ e. ⊎_elim (λ here.
        let same : giver.0 ≡ v = some-injective giver.0 v (sym giver.1 ∙ ap (λ k. get_elem? passes k) here.1 ∙ at) in (
          w,
          ap (λ k. get_elem? (set passes pass w) k) here.1 ∙ set_at passes pass v w at,
          is,
          rw e.0 (raised_elsewhere (route_of entry) route v.counts e.1 ∙ ap (λ (p : Progress W). count_at route p.counts) (sym same)
              ∙ giver.3),
        ))
        (λ other. (giver.0, set_else passes pass (q.giver route) w other.1 ∙ giver.1, giver.2, rw e.0 giver.3))
        (eqb_tells (q.giver route) pass))
        (eqb_tells route (route_of entry))

    still_one : (j : ℕ) (u : Progress W) (route : ℕ) → get_elem? (set passes pass w) j ≡ some u → u.takes ≡ false
        → IsRoute route u.counts
        → IsRoute route q.taken × (j ≡ q.giver route)
    still_one j u route e gives on =
        ⊎_elim (λ x.
        let was : IsRoute route v.counts = was_route (route_of entry) route v.counts
        (subst (λ (p : Progress W). IsRoute route p.counts) (sym x.1) on) in
        let one = q.one_giver pass v route at is was in (one.0, x.0 ∙ one.1))
        (λ x. q.one_giver j u route x.1 gives on)
        (at_set passes pass j w u e)

    still_carries : (route count : ℕ) → count_at route q.taken ≡ Some count
        → Carries route_of position_of flow stands_for q.whole route count (more_at q.given (route_of entry) route)
        (entries ++ entry ∷ [])
    still_carries route count on =
        ⊎_elim (λ e.
        let on' : count_at (route_of entry) q.taken ≡ Some count = ap (λ r. count_at r q.taken) (sym e.1) ∙ on in
        rw (e.0, e.1) (carries_more route_of position_of flow stands_for q.whole (route_of entry) count (q.given (route_of entry))
        entries entry next.fact
        (q.in_flow (route_of entry) count on') refl next.count next.at next.stands))
        (λ e. rw e.0 (carries_still route_of position_of flow stands_for q.whole route count (q.given route) entries entry
        (q.in_flow route count on) e.1))
        (eqb_tells route (route_of entry))

    given_more : Queued route_of position_of flow stands_for (entries ++ entry ∷ []) (set passes pass w)
    given_more = record {
      whole = q.whole;
      taker = q.taker;
      taken = q.taken;
      giver = q.giver;
      given = more_at q.given (route_of entry);
      of_whole = λ j u e. ⊎_elim (λ x. ap (λ (p : Progress W). p.whole) (sym x.1) ∙ q.of_whole pass v at) (λ x. q.of_whole j u x.1)
          (at_set passes pass j w u e);
      take_pass = set_else passes pass q.taker w taker_apart ∙ q.take_pass;
      one_taker = λ j u e takes. ⊎_elim (λ x. absurd (true≢false (sym takes ∙ ap (λ (p : Progress W). p.takes) (sym x.1) ∙ is)))
          (λ x. q.one_taker j u x.1 takes) (at_set passes pass j w u e);
      give_pass = gave_pass;
      one_giver = still_one;
      on_routes = All-push (λ e. IsRoute (route_of e) q.taken) entries entry q.on_routes next.on;
      in_flow = still_carries;
    }

  pub gives : (n pass : ℕ) (v : Progress W) (entry : E) → v.takes ≡ false → IsNext route_of position_of flow stands_for v entry
      → Pushes (Ruled route_of position_of flow stands_for) n pass v entry (λ w. w ≡ with_counts v (raised (route_of entry) v.counts))
  gives n pass v entry is next entries passes room rule at =
      let w : Progress W = with_counts v (raised (route_of entry) v.counts) in (
        w,
        ⊎_elim (λ none. absurd (not_open passes pass v none.1 at (next.1.0, next.1.1)))
            (λ q. inr (given_more entries passes pass v entry at is q (next_of entries passes q pass v entry at is next)))
            rule,
        refl,
      )
