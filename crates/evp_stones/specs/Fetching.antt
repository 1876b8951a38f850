-- The bytes that are held under a name.
use Rattle.std.specs.Prelude.{◌≡◌, ℕ, List, length, nat_le, if◌then◌else◌, Option, Some, None}
use Rattle.std.specs.Prelude.{IsSome, Result, Ok, Err}
use Rattle.std.specs.FinMap.{get}
use Rattle.evp_depot.specs.Files.{Files}
use Rattle.evp_depot.specs.declared.reading.Fetch.{Fetch}
use Rattle.evp_depot.specs.declared.reading.Fetch.TheVariants as fetch
use Rattle.evp_stones.specs.declared.refusal.Refusal.{Refusal}
use Rattle.evp_stones.specs.declared.refusal.Refusal.TheVariants.{Absent, Read, TooLong, Memory}

-- what stands under the name, at most so many bytes
abbrev pub within : ℕ → List ℕ → Option (List ℕ) → Result (List ℕ) Refusal
within most name None = Err (Absent name)
within most name (Some bytes) = if nat_le (length bytes) most then Ok bytes else Err (TooLong name)

abbrev pub fetched : Files → ℕ → List ℕ → Result (List ℕ) Refusal
fetched files most name = within most name (get files name)

-- what a fetch that was refused is to the line
abbrev pub refused_with : Fetch → List ℕ → Refusal
refused_with fetch.Absent name = Absent name
refused_with fetch.Failed name = Read name
refused_with fetch.TooLong name = TooLong name
refused_with fetch.Memory name = Memory

-- the most bytes of a record file
abbrev pub longest_file : ℕ
longest_file = 16777216

-- this name is meant, and it is held
abbrev pub IsHeld : List ℕ → Files → List ℕ → Type 0
IsHeld wanted files name = (name ≡ wanted) × IsSome (get files wanted)
