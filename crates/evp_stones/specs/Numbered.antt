-- A text for each element of a list, by its number.
use Rattle.std.specs.Prelude.{ℕ, ◌+◌, List, [], ◌∷◌, ◌++◌}

-- the texts of these, of which the first has this number
abbrev pub numbered : {X : Type 0} → (ℕ → X → List ℕ) → ℕ → List X → List ℕ
numbered text number [] = []
numbered text number (x ∷ xs) = text number x ++ numbered text (number + 1) xs
