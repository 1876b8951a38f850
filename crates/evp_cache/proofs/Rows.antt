-- Rows that are added hold no place.
use Rattle.std.proofs.Common.{◌≡◌, ℕ, zero, suc, List, [], ◌∷◌, ◌++◌, refl, ap, ◌∙◌, get_or}
use Rattle.evp_cache.specs.Places.{AreAlike}

default_more : {X : Type 0} (xs : List X) (d : X) (n : ℕ) → get_or (xs ++ d ∷ []) n d ≡ get_or xs n d
default_more [] d zero = refl
default_more [] d (suc n) = refl
default_more (x ∷ xs) d zero = refl
default_more (x ∷ xs) d (suc n) = default_more xs d n

pub alike_more : (old rows : List (List ℕ)) → AreAlike old rows → AreAlike old (rows ++ [] ∷ [])
alike_more old rows alike a b = ap (λ (row : List ℕ). get_or row a 0) (default_more rows [] b) ∙ alike a b
