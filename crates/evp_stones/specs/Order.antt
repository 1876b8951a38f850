-- Files that list turns: lines of one actor's number each, in decimal. The last line feed may be
-- missing.
use Rattle.std.specs.Prelude.{ℕ, zero, suc, ◌+◌, ◌==◌, if◌then◌else◌, List, [], ◌∷◌, length, drop}
use Rattle.std.specs.Prelude.{Option, Some, None, Result, Ok, Err}
use Rattle.evp_stones.specs.declared.refusal.Refusal.{Refusal}
use Rattle.evp_stones.specs.declared.refusal.Refusal.TheVariants.{Order}
use Rattle.evp_stones.specs.DecimalNumber.{number_in}
use Rattle.evp_stones.specs.Steps.{◌>>=◌}

-- the most bytes of such a file
abbrev pub longest_order : ℕ
longest_order = 1048576

-- the bytes in front of the first line feed
abbrev pub first_line : List ℕ → List ℕ
first_line [] = []
first_line (byte ∷ bytes) = if byte == 10 then [] else byte ∷ first_line bytes

-- what stands behind it
abbrev pub behind_line : List ℕ → List ℕ
behind_line bytes = drop (length (first_line bytes) + 1) bytes

-- the number that a line at this place has
abbrev pub turn_at : List ℕ → ℕ → Option ℕ → Result ℕ Refusal
turn_at name at None = Err (Order name at)
turn_at name at (Some actor) = Ok actor

-- The turns of so many lines at most, of which the first begins at this place, or the first line
-- that isn't the number of one of so many actors.
abbrev pub turns_from : ℕ → List ℕ → ℕ → ℕ → List ℕ → Result (List ℕ) Refusal
turns_from actors name zero at bytes = Ok []
turns_from actors name (suc lines) at [] = Ok []
turns_from actors name (suc lines) at (byte ∷ bytes) = do
  actor ← turn_at name at (number_in actors (first_line (byte ∷ bytes)))
  others ← turns_from actors name lines (at + length (first_line (byte ∷ bytes)) + 1)
      (behind_line (byte ∷ bytes))
  Ok (actor ∷ others)

-- those of the file of this name and of these bytes; each line has a byte
abbrev pub turns_of : ℕ → List ℕ → List ℕ → Result (List ℕ) Refusal
turns_of actors name bytes = turns_from actors name (length bytes) 0 bytes
