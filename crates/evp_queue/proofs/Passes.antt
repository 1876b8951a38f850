-- The passes of a queue after one of them changed, and after one was made.
use Rattle.std.proofs.Common.{◌≡◌, ℕ, zero, suc, ◌≢◌, ◌⊎◌, inl, inr, ⊎_elim, List, [], ◌∷◌, ◌++◌, length, set, sym, refl, ap, ◌∙◌}
use Rattle.std.proofs.Common.{length-set}
use mathlib.Core.Option.{some, some-injective, some-ne-none}
use lib.ListN.{get_elem?}
use Rattle.crossbeam_queue.proofs.Lists.{at_set}
use Rattle.evp_queue.specs.Rule.{unopened, IsOpen}
use Rattle.evp_queue.specs.declared.progress.Progress.{Progress}

module _ {A : Type 0} where
  pub only_first : (a b : A) (j : ℕ) → get_elem? (a ∷ []) j ≡ some b → (j ≡ 0) × (a ≡ b)
  only_first a b zero at = (refl, some-injective a b at)
  only_first a b (suc j) at = absurd (some-ne-none b (sym at))

  -- a place that was taken has what was set there
  pub set_at : (l : List A) (i : ℕ) (a b : A) → get_elem? l i ≡ some a → get_elem? (set l i b) i ≡ some b
  set_at [] i a b at = absurd (some-ne-none a (sym at))
  set_at (x ∷ xs) zero a b at = refl
  set_at (x ∷ xs) (suc i) a b at = set_at xs i a b at

  at_end : (l : List A) (a b : A) (j : ℕ) → get_elem? (l ++ a ∷ []) j ≡ some b → ((get_elem? l j ≡ some b) ⊎ ((j ≡ length l) × (a ≡ b)))
  at_end [] a b zero at = inr (refl, some-injective a b at)
  at_end [] a b (suc j) at = absurd (some-ne-none b (sym at))
  at_end (x ∷ xs) a b zero at = inl at
  at_end (x ∷ xs) a b (suc j) at = ⊎_elim inl (λ e. inr (ap suc e.0, e.1)) (at_end xs a b j at)

  -- a place after one was changed and one was added
  pub at_parted : (l : List A) (i : ℕ) (a b : A) (j : ℕ) (c : A) → get_elem? (set l i a ++ b ∷ []) j ≡ some c
      → ((j ≡ i) × (a ≡ c)) ⊎ (((j ≢ i) × (get_elem? l j ≡ some c)) ⊎ ((j ≡ length l) × (b ≡ c)))
  at_parted l i a b j c at =
      ⊎_elim (λ old. ⊎_elim inl (λ e. inr (inl e)) (at_set l i j a c old))
      (λ e. inr (inr (e.0 ∙ length-set l i a, e.1)))
      (at_end (set l i a) b c j at)

-- the first pass isn't one of an open queue
pub not_open : {W : Type 0} (passes : List (Progress W)) (pass : ℕ) (v : Progress W) → passes ≡ unopened ∷ [] → get_elem? passes pass
    ≡ some v → IsOpen v → ⊥
not_open {W = W} passes pass v first at is =
    let only = only_first unopened v pass (ap (λ l. get_elem? l pass) (sym first) ∙ at) in
    let none = ap (λ (p : Progress W). p.whole) only.1 in absurd cc
