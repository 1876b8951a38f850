-- The bytes of a text.
use Rattle.std.specs.Prelude.{◌≢◌, ℕ, List, [], ◌∷◌, ⊤}

-- no byte is zero
abbrev pub HasNoZero : List ℕ → Type 0
HasNoZero [] = ⊤
HasNoZero (byte ∷ bytes) = (byte ≢ 0) × HasNoZero bytes
