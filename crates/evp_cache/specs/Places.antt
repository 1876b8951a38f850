-- The index of a pass: for each receiver and each sender a place, counted from 1, or 0.
use Rattle.std.specs.Prelude.{◌≡◌, ℕ, suc, ◌==◌, false, List, [], ◌∷◌, get_or, if◌then◌else◌}
use Rattle.std.specs.Prelude.{Option, Some, None, option_map}
use Rattle.evp_cache.specs.Known.{Known, is_pair}

abbrev pub place_at : List (List ℕ) → ℕ → ℕ → ℕ
place_at rows from to = get_or (get_or rows to []) from 0

-- where the pair is in the list
abbrev pub position_of : List Known → ℕ → ℕ → Option ℕ
position_of [] from to = None
position_of (k ∷ ks) from to = if is_pair from to k then Some 0
    else option_map suc (position_of ks from to)

-- counted from 1; 0 where it isn't there
abbrev pub counted : Option ℕ → ℕ
counted None = 0
counted (Some place) = suc place

-- the index says where each pair is in the list
abbrev pub IsIndex : List (List ℕ) → List Known → Type 0
IsIndex rows ks = (from to : ℕ) → place_at rows from to ≡ counted (position_of ks from to)

-- the pair has this place now, and each other pair the one that it had
abbrev pub IsPlaced : List (List ℕ) → List (List ℕ) → ℕ → ℕ → ℕ → Type 0
IsPlaced old new from to place = (a b : ℕ) → place_at new a b
    ≡ (if (if from == a then to == b else false) then place else place_at old a b)

abbrev pub AreAlike : List (List ℕ) → List (List ℕ) → Type 0
AreAlike old new = (a b : ℕ) → place_at new a b ≡ place_at old a b
