-- A give pass that is split keeps the rule.
use Rattle.std.proofs.Common.{◌≡◌, ℕ, ◌≢◌, ◌⊎◌, inl, inr, ⊎_elim, Bool, true, false, true≢false, cond, List, [], ◌∷◌, ◌++◌, length, set}
use Rattle.std.proofs.Common.{Some, sym, refl, ap, ◌∙◌, subst, eqb, eq-eqb, ne_eqb, length-set}
use Rattle.std.proofs.lemmas.Bool.Decides.{eqb_tells}
use mathlib.Core.Option.{some, some-injective}
use lib.ListN.{get_elem?}
use Rattle.crossbeam_queue.specs.Fifo.{Forks}
use Rattle.crossbeam_queue.proofs.Lists.{set_else, at_longer, at_last}
use Rattle.evp_queue.specs.Counts.{count_at, IsRoute, is_among, those, others}
use Rattle.evp_queue.specs.Rule.{progress, with_counts, IsOpen, Queued, Ruled}
use Rattle.evp_queue.specs.declared.progress.Progress.{Progress}
use Rattle.evp_queue.proofs.Counts.{those_at, not_in_those, others_at, not_in_others}
use Rattle.evp_queue.proofs.Passes.{set_at, at_parted, not_open}

-- a test has one of two answers
tested : (b : Bool) → (b ≡ true) ⊎ (b ≡ false)
tested true = inl refl
tested false = inr refl

module _ {E W Fact : Type 0} (route_of position_of : E → ℕ) (flow : W → ℕ → List Fact) (stands_for : E → Fact → Type 0) where
  module _ (routes : List ℕ) (entries : List E) (passes : List (Progress W)) (pass : ℕ) (v : Progress W)
      (at : get_elem? passes pass ≡ some v) (is : v.takes ≡ false)
      (q : Queued route_of position_of flow stands_for entries passes) where
    abbrev left : Progress W
    left = with_counts v (those routes v.counts)

    abbrev right : Progress W
    right = with_counts v (others routes v.counts)

    abbrev parted : List (Progress W)
    parted = set passes pass left ++ right ∷ []

    -- the pass that has a route afterwards
    abbrev giver_of : ℕ → ℕ
    giver_of route = cond (eqb (q.giver route) pass) (cond (is_among route routes) pass (length passes)) (q.giver route)

    left_at : get_elem? parted pass ≡ some left
    left_at = at_longer (set passes pass left) (right ∷ []) pass left (set_at passes pass v left at)

    right_at : get_elem? parted (length passes) ≡ some right
    right_at = at_last (set passes pass left) right (length passes) (length-set passes pass left)

    other_at : (j : ℕ) (u : Progress W) → j ≢ pass → get_elem? passes j ≡ some u → get_elem? parted j ≡ some u
    other_at j u apart e = at_longer (set passes pass left) (right ∷ []) j u (set_else passes pass j left apart ∙ e)

    of_whole : (j : ℕ) (u : Progress W) → get_elem? parted j ≡ some u → u.whole ≡ Some q.whole
    of_whole j u e =
        ⊎_elim (λ x. ap (λ (p : Progress W). p.whole) (sym x.1) ∙ q.of_whole pass v at)
        (λ y. ⊎_elim (λ x. q.of_whole j u x.1) (λ x. ap (λ (p : Progress W). p.whole) (sym x.1) ∙ q.of_whole pass v at) y)
        (at_parted passes pass left right j u e)

    taker_apart : q.taker ≢ pass
    taker_apart e =
        let same : progress (Some q.whole) true q.taken ≡ v = some-injective _ v (sym q.take_pass ∙ ap (λ k. get_elem? passes k) e ∙ at)
        in
        true≢false (ap (λ (p : Progress W). p.takes) same ∙ is)

    one_taker : (j : ℕ) (u : Progress W) → get_elem? parted j ≡ some u → u.takes ≡ true → j ≡ q.taker
    one_taker j u e takes =
        let gives = λ (same : v.takes ≡ u.takes). true≢false (sym takes ∙ sym same ∙ is) in
        ⊎_elim (λ x. absurd (gives (ap (λ (p : Progress W). p.takes) x.1)))
        (λ y. ⊎_elim (λ x. q.one_taker j u x.1 takes) (λ x. absurd (gives (ap (λ (p : Progress W). p.takes) x.1))) y)
        (at_parted passes pass left right j u e)

    give_pass : (route : ℕ) → IsRoute route q.taken
        → (u : Progress W) × (get_elem? parted (giver_of route) ≡ some u) × (u.takes ≡ false)
        × (count_at route u.counts ≡ Some (q.given route))
    give_pass route on =
        let giver = q.give_pass route on in
        ⊎_elim (λ here.
        let same : giver.0 ≡ v = some-injective giver.0 v (sym giver.1 ∙ ap (λ k. get_elem? passes k) here.1 ∙ at) in
        let count : count_at route v.counts ≡ Some (q.given route) = ap (λ (p : Progress W). count_at route p.counts) (sym same)
        ∙ giver.3 in
        ⊎_elim (λ among. (left, rw (here.0, among) left_at, is, those_at routes route v.counts among ∙ count))
        (λ not_among. (right, rw (here.0, not_among) right_at, is, others_at routes route v.counts not_among ∙ count))
        (tested (is_among route routes)))
        (λ other. (giver.0, rw other.0 (other_at (q.giver route) giver.0 other.1 giver.1), giver.2, giver.3))
        (eqb_tells (q.giver route) pass)

    -- the pass that was split had the route
    in_left : (route : ℕ) → IsRoute route (those routes v.counts) → (is_among route routes ≡ true) × IsRoute route v.counts
    in_left route on =
        ⊎_elim (λ among. (among, (on.0, sym (those_at routes route v.counts among) ∙ on.1)))
        (λ not_among. absurd (let none = not_in_those routes route v.counts not_among in let some' = on.1 in cc))
        (tested (is_among route routes))

    in_right : (route : ℕ) → IsRoute route (others routes v.counts) → (is_among route routes ≡ false) × IsRoute route v.counts
    in_right route on =
        ⊎_elim (λ among. absurd (let none = not_in_others routes route v.counts among in let some' = on.1 in cc))
        (λ not_among. (not_among, (on.0, sym (others_at routes route v.counts not_among) ∙ on.1)))
        (tested (is_among route routes))

    one_giver : (j : ℕ) (u : Progress W) (route : ℕ) → get_elem? parted j ≡ some u → u.takes ≡ false → IsRoute route u.counts
        → IsRoute route q.taken × (j ≡ giver_of route)
    one_giver j u route e gives on =
        ⊎_elim (λ x.
        let was = in_left route (subst (λ (p : Progress W). IsRoute route p.counts) (sym x.1) on) in
        let one = q.one_giver pass v route at is was.1 in
        (one.0, rw (eq-eqb (q.giver route) pass (sym one.1), was.0) x.0))
        (λ y. ⊎_elim (λ x.
        let one = q.one_giver j u route x.1 gives on in
        (one.0, rw (ne_eqb (q.giver route) pass (λ g. x.0 (one.1 ∙ g))) one.1))
        (λ x.
        let was = in_right route (subst (λ (p : Progress W). IsRoute route p.counts) (sym x.1) on) in
        let one = q.one_giver pass v route at is was.1 in
        (one.0, rw (eq-eqb (q.giver route) pass (sym one.1), was.0) x.0))
        y)
        (at_parted passes pass left right j u e)

    split_one : Queued route_of position_of flow stands_for entries parted
    split_one = record {
      whole = q.whole;
      taker = q.taker;
      taken = q.taken;
      giver = giver_of;
      given = q.given;
      of_whole = of_whole;
      take_pass = other_at q.taker (progress (Some q.whole) true q.taken) taker_apart q.take_pass;
      one_taker = one_taker;
      give_pass = give_pass;
      one_giver = one_giver;
      on_routes = q.on_routes;
      in_flow = q.in_flow;
    }

  pub parts : (pass : ℕ) (v : Progress W) (routes : List ℕ) → v.takes ≡ false → IsOpen v
      → Forks (Ruled route_of position_of flow stands_for) pass v (with_counts v (those routes v.counts))
      (with_counts v (others routes v.counts))
  parts pass v routes is open' entries passes rule at =
      ⊎_elim (λ none. absurd (not_open passes pass v none.1 at open')) (λ q. inr (split_one routes entries passes pass v at is q)) rule
