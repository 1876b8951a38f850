-- Elements of lists by their places.
use Rattle.std.proofs.Common.{◌≡◌, ℕ, zero, suc, ◌+◌, ◌<◌, List, [], ◌∷◌, ◌++◌, length, drop, Some, refl, ap, ◌∙◌, inl, inr, ⊎_elim, arith}
use Rattle.std.specs.Prelude.{◌⊎◌}
use Rattle.std.specs.List.{slice_get}

-- an element of a list with one more at its end
pub snoc_at : {X : Type 0} (xs : List X) (x y : X) (k : ℕ) → slice_get (xs ++ x ∷ []) k ≡ Some y
    → (slice_get xs k ≡ Some y) ⊎ ((k ≡ length xs) × (x ≡ y))
snoc_at [] x y zero at = inr (refl, cc)
snoc_at [] x y (suc k) at = absurd (cc)
snoc_at (z ∷ xs) x y zero at = inl at
snoc_at (z ∷ xs) x y (suc k) at = ⊎_elim inl (λ e. inr (ap suc e.0, e.1)) (snoc_at xs x y k at)

-- below the length something stands
pub there_below : {X : Type 0} (xs : List X) (k : ℕ) → k < length xs → (x : X) × (slice_get xs k ≡ Some x)
there_below [] k below = absurd (omega arith)
there_below (x ∷ xs) zero below = (x, refl)
there_below (x ∷ xs) (suc k) below = there_below xs k (omega arith)

-- the first element behind so many is the one at that place
pub next_at : {X : Type 0} (xs others : List X) (k : ℕ) (x : X) → drop k xs ≡ x ∷ others
    → (slice_get xs k ≡ Some x) × (drop (k + 1) xs ≡ others)
next_at [] others zero x is = absurd (cc)
next_at [] others (suc k) x is = absurd (cc)
next_at (y ∷ xs) others zero x is = (let same : y ≡ x = cc in ap Some same, let rest : xs ≡ others = cc in rest)
next_at (y ∷ xs) others (suc k) x is =
    let more = next_at xs others k x is in
    (more.0, ap (λ (n : ℕ). drop n (y ∷ xs)) (let e : suc k + 1 ≡ suc (k + 1) = omega arith in e) ∙ more.1)
