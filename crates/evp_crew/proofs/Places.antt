-- What holds at each place of a list and of its first one and its others.
use Rattle.std.proofs.Common.{◌≡◌, ℕ, zero, suc, ◌+◌, ◌<◌, List, [], ◌∷◌, ◌++◌, length, subst, sym, arith}
use Rattle.std.specs.Prelude.{get_or}

module _ {X : Type 0} where
  -- it holds at each place of the others
  pub behind : (P : ℕ → X → Type 0) (from : ℕ) (xs ys zs : List X) → zs ≡ xs ++ ys → length xs ≡ 1
      → ((k : ℕ) (d : X) → k < length zs → P (from + k) (get_or zs k d))
      → (k : ℕ) (d : X) → k < length ys → P (from + 1 + k) (get_or ys k d)
  behind P from [] ys zs is one each k d l = absurd (omega (arith, one))
  behind P from (x ∷ []) ys zs is one each k d l =
      let all : (k : ℕ) (d : X) → k < length (x ∷ ys) → P (from + k) (get_or (x ∷ ys) k d) =
      subst (λ (l : List X). (k : ℕ) (d : X) → k < length l → P (from + k) (get_or l k d)) is each in
      subst (λ n. P n (get_or ys k d)) (omega arith) (all (suc k) d (omega (arith, l)))
  behind P from (x ∷ y ∷ xs) ys zs is one each k d l = absurd (omega (arith, one))

  -- it holds at each place of both
  pub together : (P : ℕ → X → X → Type 0) (from : ℕ) (xs ys zs xs' ys' : List X) → zs ≡ xs ++ ys → length xs ≡ 1
      → length xs' ≡ 1
      → ((k : ℕ) (d : X) → k < length xs → P (from + k) (get_or xs k d) (get_or xs' k d))
      → ((k : ℕ) (d : X) → k < length ys → P (from + 1 + k) (get_or ys k d) (get_or ys' k d))
      → (k : ℕ) (d : X) → k < length zs → P (from + k) (get_or zs k d) (get_or (xs' ++ ys') k d)
  together P from [] ys zs xs' ys' is one one' first others k d l = absurd (omega (arith, one))
  together P from (x ∷ y ∷ xs) ys zs xs' ys' is one one' first others k d l = absurd (omega (arith, one))
  together P from (x ∷ []) ys zs [] ys' is one one' first others k d l = absurd (omega (arith, one'))
  together P from (x ∷ []) ys zs (x' ∷ y' ∷ xs') ys' is one one' first others k d l = absurd (omega (arith, one'))
  together P from (x ∷ []) ys zs (x' ∷ []) ys' is one one' first others zero d l =
      subst (λ (zs : List X). P (from + 0) (get_or zs 0 d) x') (sym is) (first 0 d (omega arith))
  together P from (x ∷ []) ys zs (x' ∷ []) ys' is one one' first others (suc k) d l =
      let short : suc k < length (x ∷ ys) = subst (λ (zs : List X). suc k < length zs) is l in
      subst (λ (zs : List X). P (from + suc k) (get_or zs (suc k) d) (get_or ys' k d)) (sym is)
      (subst (λ n. P n (get_or ys k d) (get_or ys' k d)) (omega arith) (others k d (omega (arith, short))))
