-- Paths along targets: their joins, what it takes to be safe, and how long one can be without a cycle.
use Rattle.std.proofs.Common.{◌≡◌, ◌≢◌, ℕ, zero, suc, ◌<◌, ◌≤◌, true, false, eqb, Some, List, [], ◌∷◌, ◌++◌, length, refl, sym, ap, subst}
use Rattle.std.proofs.Common.{inl, inr, arith}
use Rattle.std.specs.List.{AllByRecursion, Contains, IsDistinct, slice_get}
use Rattle.std.proofs.lemmas.List.{get_or_past}
use Rattle.std.proofs.lemmas.List.Elements.{All-from_recursion, All-contains}
use Rattle.std.proofs.lemmas.Option.{get_or_from_slice_get}
use Rattle.std.proofs.lemmas.Bool.Decides.{nat_tests}
use Rattle.std.proofs.lemmas.Map.Steps.{length-le_from_distinct_below}
use Rattle.std.proofs.lemmas.Map.Views.{Contains-from_any}
use Rattle.evp_graph.specs.Shape.{targets_of, IsTarget, Leads, Reaches, IsAcyclic, HaveTargets}
use Rattle.evp_graph.specs.Routes.{Steps}
use Rattle.evp_graph.specs.Search.{IsSafe}
use Rattle.evp_graph.proofs.Lists.{Each-weaker}

-- two paths, one behind the other
pub Leads-append : (targets : List (List ℕ)) (a : ℕ) (u : List ℕ) (c : ℕ) (w : List ℕ) (b : ℕ) → Leads targets a u c → Leads targets c w b
    → Leads targets a (u ++ c ∷ w) b
Leads-append targets a [] c w b h k = (h, k)
Leads-append targets a (d ∷ u) c w b h k = (h.0, Leads-append targets d u c w b h.1 k)

-- a path through c goes to c and on from there
pub Leads-split : (targets : List (List ℕ)) (a : ℕ) (u : List ℕ) (c : ℕ) (w : List ℕ) (b : ℕ) → Leads targets a (u ++ c ∷ w) b
    → Leads targets a u c × Leads targets c w b
Leads-split targets a [] c w b h = (h.0, h.1)
Leads-split targets a (d ∷ u) c w b h = let k = Leads-split targets d u c w b h.1 in ((h.0, k.0), k.1)

pub Reaches-target : (targets : List (List ℕ)) (a b c : ℕ) → Reaches targets a b → IsTarget targets b c → Reaches targets a c
Reaches-target targets a b c r t = (r.0 ++ b ∷ [], Leads-append targets a r.0 b [] c r.1 t)

-- a stone is safe where its targets are
pub IsSafe-from_targets : (targets : List (List ℕ)) (a : ℕ) → ((c : ℕ) → IsTarget targets a c → IsSafe targets c) → IsSafe targets a
IsSafe-from_targets targets a safe b reached again =
    elim reached [
      | inl e ↦ (let P : ℕ → Type 0 = λ x. Reaches targets x b in let r : Reaches targets a b = subst P (sym e) again in
          onward r.0 r.1)
      | inr r ↦ onward r.0 r.1
    ]
  where
    onward : (between : List ℕ) → Leads targets a between b → ⊥
    onward [] h = safe b h b (inl refl) again
    onward (c ∷ between) h = safe c h.0 b (inr (between, h.1)) again

-- a number that is no stone has no targets
pub IsTarget-none : (targets : List (List ℕ)) (a c : ℕ) → length targets ≤ a → IsTarget targets a c → ⊥
IsTarget-none targets a c past t =
    let e : targets_of targets a ≡ [] = get_or_past targets a [] past in
    let k : t.0 < length (targets_of targets a) = t.1 in
    absurd (omega (arith, ap length e))

pub IsSafe-no_stone : (targets : List (List ℕ)) (a : ℕ) → length targets ≤ a → IsSafe targets a
IsSafe-no_stone targets a past = IsSafe-from_targets targets a (λ c t. absurd (IsTarget-none targets a c past t))

pub IsAcyclic-from_safe : (targets : List (List ℕ)) → ((a : ℕ) → IsSafe targets a) → IsAcyclic targets
IsAcyclic-from_safe targets safe a r = safe a a (inl refl) r

pub Contains-from_get : (row : List ℕ) (p b : ℕ) → slice_get row p ≡ Some b → Contains row b
Contains-from_get row p b e = (p, within row p e, get_or_from_slice_get row p b b e)
  where
    within : (row : List ℕ) (p : ℕ) → slice_get row p ≡ Some b → p < length row
    within [] p e = absurd (let none : ⊥ = cc in none)
    within (c ∷ row) zero e = omega arith
    within (c ∷ row) (suc p) e = let k = within row p e in omega arith

-- what has a target of a above it has all that a's steps visit above it
visited : (targets : List (List ℕ)) (x a : ℕ) (positions stones : List ℕ) → ((y : ℕ) → IsTarget targets a y → Reaches targets x y)
    → Steps targets a positions stones → AllByRecursion (λ y. Reaches targets x y) stones
visited targets x a [] [] f s = tt
visited targets x a [] (b ∷ stones) f s = absurd s
visited targets x a (p ∷ positions) [] f s = absurd s
visited targets x a (p ∷ positions) (b ∷ stones) f s =
    let r = f b (Contains-from_get (targets_of targets a) p b s.0) in
    (r, visited targets x b positions stones (λ y t. Reaches-target targets x b y r t) s.1)

differs : (x y : ℕ) → x ≢ y → eqb x y ≡ false
differs x y h = grind (arith, nat_tests)

-- without a cycle no stone is visited twice
Steps-distinct : (targets : List (List ℕ)) → IsAcyclic targets → (a : ℕ) (positions stones : List ℕ) → Steps targets a positions stones
    → IsDistinct eqb (a ∷ stones)
unfolding IsDistinct
Steps-distinct targets acyclic a [] [] s = (tt, tt)
Steps-distinct targets acyclic a [] (b ∷ stones) s = absurd s
Steps-distinct targets acyclic a (p ∷ positions) [] s = absurd s
Steps-distinct targets acyclic a (p ∷ positions) (b ∷ stones) s =
    let above = visited targets a a (p ∷ positions) (b ∷ stones) (λ y t. ([], t)) s in (
      Each-weaker (λ y. Reaches targets a y) (λ y. eqb a y ≡ false)
          (λ y r. differs a y (λ e. acyclic a (let P : ℕ → Type 0 = λ z. Reaches targets a z in subst P (sym e) r))) (b ∷ stones) above,
      Steps-distinct targets acyclic b positions stones s.1,
    )

pub target_below : (targets : List (List ℕ)) → HaveTargets targets → (a p b : ℕ) → a < length targets
    → slice_get (targets_of targets a) p ≡ Some b → b < length targets
target_below targets have a p b lt e =
    let t = Contains-from_get (targets_of targets a) p b e in
    All-contains (λ n. n < length targets) (targets_of targets a) b (have a [] lt) t

visited_below : (targets : List (List ℕ)) → HaveTargets targets → (a : ℕ) (positions stones : List ℕ) → a < length targets
    → Steps targets a positions stones → AllByRecursion (λ n. n < length targets) (a ∷ stones)
visited_below targets have a [] [] lt s = (lt, tt)
visited_below targets have a [] (b ∷ stones) lt s = absurd s
visited_below targets have a (p ∷ positions) [] lt s = absurd s
visited_below targets have a (p ∷ positions) (b ∷ stones) lt s =
    (lt, visited_below targets have b positions stones (target_below targets have a p b lt s.0) s.1)

-- without a cycle a stone's steps visit fewer stones than there are
pub length-steps : (targets : List (List ℕ)) → HaveTargets targets → IsAcyclic targets → (a : ℕ) (positions stones : List ℕ)
    → a < length targets → Steps targets a positions stones → length stones < length targets
length-steps targets have acyclic a positions stones lt s =
    let below = All-from_recursion (λ n. n < length targets) (a ∷ stones) (visited_below targets have a positions stones lt s) in
    let same : (x y : ℕ) → eqb x y ≡ true → x ≡ y = λ x y e. grind (arith, nat_tests) in
    let few = length-le_from_distinct_below (a ∷ stones) (length targets) (Steps-distinct targets acyclic a positions stones s)
    (λ q e. All-contains (λ n. n < length targets) (a ∷ stones) q below (Contains-from_any same q (a ∷ stones) e)) in
    omega arith
