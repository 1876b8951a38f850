-- Masks of several elements of one size.
use Rattle.std.specs.Prelude.{ℕ, zero, suc, ◌+◌, nat_lt, nat_le, if◌then◌else◌, Bool, true, ◌&&◌}
use Rattle.std.specs.Prelude.{◌||◌, List, [], ◌∷◌, ◌++◌, map}

-- each place is below a bound, or none
abbrev pub are_within : ℕ → List ℕ → Bool
are_within bound [] = true
are_within bound (place ∷ places) = (nat_lt place bound || nat_le 128 place) && are_within bound
    places

-- the place so many bytes on
abbrev pub later : ℕ → ℕ → ℕ
later width place = if nat_lt place 16 then place + width else place

-- the places of one element, and again for each further one of so many, which stand side by side
abbrev pub repeated : ℕ → ℕ → List ℕ → List ℕ
repeated zero width places = []
repeated (suc count) width places = places ++ map (later width) (repeated count width places)
