-- A queue that is opened keeps the rule.
use Rattle.std.proofs.Common.{◌≡◌, ℕ, zero, suc, inl, inr, ⊎_elim, true, false, true≢false, List, [], ◌∷◌, Some, sym, refl, ap, ◌∙◌}
use Rattle.std.proofs.Common.{subst, arith}
use Rattle.std.proofs.lemmas.List.Elements.{All-nil}
use mathlib.Core.Option.{some, some-injective, some-ne-none}
use lib.ListN.{get_elem?}
use Rattle.crossbeam_queue.specs.Fifo.{Forks}
use Rattle.evp_queue.specs.Counts.{IsRoute, zeroed}
use Rattle.evp_queue.specs.Flow.{Carries}
use Rattle.evp_queue.specs.Rule.{progress, unopened, Queued, Ruled}
use Rattle.evp_queue.specs.declared.progress.Progress.{Progress}
use Rattle.evp_queue.proofs.Counts.{zeroed_at}
use Rattle.evp_queue.proofs.Passes.{only_first}

module _ {E W Fact : Type 0} (route_of position_of : E → ℕ) (flow : W → ℕ → List Fact) (stands_for : E → Fact → Type 0) where
  pub begins : Ruled route_of position_of flow stands_for [] (unopened ∷ [])
  begins = inl (refl, refl)

  carries_none : (whole : W) (route count : ℕ) → count ≡ 0 → Carries route_of position_of flow stands_for whole route count 0 []
  carries_none whole route count none =
      subst (λ c. Carries route_of position_of flow stands_for whole route c 0 []) (sym none) record
      { behind = omega arith; within = omega arith; stand = tt }

  module _ (whole : W) (routes : List ℕ) where
    abbrev giver : Progress W
    giver = progress (Some whole) false (zeroed routes)

    abbrev taker : Progress W
    taker = progress (Some whole) true (zeroed routes)

    of_whole : (j : ℕ) (u : Progress W) → get_elem? (giver ∷ taker ∷ []) j ≡ some u → u.whole ≡ Some whole
    of_whole zero u e = ap (λ (p : Progress W). p.whole) (sym (some-injective giver u e))
    of_whole (suc zero) u e = ap (λ (p : Progress W). p.whole) (sym (some-injective taker u e))
    of_whole (suc (suc j)) u e = absurd (some-ne-none u (sym e))

    one_taker : (j : ℕ) (u : Progress W) → get_elem? (giver ∷ taker ∷ []) j ≡ some u → u.takes ≡ true → j ≡ 1
    one_taker zero u e takes = absurd (true≢false (sym takes ∙ ap (λ (p : Progress W). p.takes) (sym (some-injective giver u e))))
    one_taker (suc zero) u e takes = refl
    one_taker (suc (suc j)) u e takes = absurd (some-ne-none u (sym e))

    one_giver : (j : ℕ) (u : Progress W) (route : ℕ) → get_elem? (giver ∷ taker ∷ []) j ≡ some u → u.takes ≡ false
        → IsRoute route u.counts
        → IsRoute route (zeroed routes) × (j ≡ 0)
    one_giver zero u route e gives on = (subst (λ (p : Progress W). IsRoute route p.counts) (sym (some-injective giver u e)) on, refl)
    one_giver (suc zero) u route e gives on = absurd (true≢false (ap (λ (p : Progress W). p.takes) (some-injective taker u e) ∙ gives))
    one_giver (suc (suc j)) u route e gives on = absurd (some-ne-none u (sym e))

    opened : Queued route_of position_of flow stands_for [] (giver ∷ taker ∷ [])
    opened = record {
      whole = whole;
      taker = 1;
      taken = zeroed routes;
      giver = λ _. 0;
      given = λ _. 0;
      of_whole = of_whole;
      take_pass = refl;
      one_taker = one_taker;
      give_pass = λ route on. (giver, refl, refl, on.1 ∙ ap (λ (n : ℕ). Some n) (zeroed_at routes route on.0 on.1));
      one_giver = one_giver;
      on_routes = All-nil (λ e. IsRoute (route_of e) (zeroed routes));
      in_flow = λ route count on. carries_none whole route count (zeroed_at routes route count on);
    }

  -- the first pass becomes the give pass, and the new one the take pass
  pub opens : (pass : ℕ) (whole : W) (routes : List ℕ)
      → Forks (Ruled route_of position_of flow stands_for) pass unopened (progress (Some whole) false (zeroed routes))
      (progress (Some whole) true (zeroed routes))
  opens pass whole routes entries passes rule at =
      ⊎_elim (λ first.
      let here = only_first unopened unopened pass (ap (λ l. get_elem? l pass) (sym first.1) ∙ at) in
      inr (rw (first.0, first.1, here.0) (opened whole routes)))
      (λ q. absurd (let none = q.of_whole pass unopened at in cc))
      rule
