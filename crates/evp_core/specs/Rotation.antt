-- Turns in rotation.
use Rattle.std.specs.Prelude.{◌≡◌, ℕ, ◌≤◌, ◌%◌, List, length, Some, slice_get}
use Rattle.std.specs.List.{range_with_len}
use Rattle.evp_core.specs.Held.{HasStopped}
use Rattle.evp_core.specs.Turns.{turns}
use Rattle.evp_core.specs.WorldShape.{WorldShape}
use Rattle.evp_core.specs.WorldTurned.{HaveTurned}

-- the number of each actor, in order
abbrev pub all_numbers : WorldShape → List ℕ
all_numbers world = range_with_len 0 (length world.actors)

-- the numbers go round: 0, 1, .., the last of so many actors, 0, 1, ..
abbrev pub IsRotation : ℕ → List ℕ → Type 0
IsRotation actors numbers =
    (place number : ℕ) → slice_get numbers place ≡ Some number → number ≡ place % actors

-- turns were done in rotation, each with memory, at most as many as carry the job
pub record HaveRotated (old new : WorldShape) : Type 0 where
  pub numbers : List ℕ
  pub rotation : IsRotation (length old.actors) numbers
  pub few : length numbers ≤ turns old.lists.job
  pub turned : HaveTurned old new numbers

-- some first turns of a rotation were done, and the next one found no memory
pub record HasStoppedIn (old new : WorldShape) : Type 0 where
  pub numbers : List ℕ
  pub rotation : IsRotation (length old.actors) numbers
  pub few : length numbers ≤ turns old.lists.job
  pub stopped : HasStopped old new numbers
