-- The seats of a job on the caller's thread.
use Rattle.std.specs.Prelude.{◌≡◌, ℕ, ◌<◌, List, length, Some, slice_get}
use Rattle.evp_crew.specs.declared.three.Three.{Three}
use Rattle.evp_crew.specs.Carried.{IsDoneAt}
use Rattle.evp_crew.specs.Rule.{IsOfThree}
use Rattle.evp_crew.specs.Seat.{SeatShape}

-- the seat of this number
pub record IsInOrder (three : Three) (number : ℕ) (seat : SeatShape) : Type 0 where
  pub number_is : seat.number ≡ number
  pub of : IsOfThree three seat

-- one for each actor, in order
pub record AreInOrder (three : Three) (count : ℕ) (seats : List SeatShape) : Type 0 where
  pub long : length seats ≡ count
  pub each : (number : ℕ) (seat : SeatShape) → slice_get seats number ≡ Some seat
      → IsInOrder three number seat

-- the first so many are closed
abbrev pub AreClosed : Three → ℕ → List SeatShape → Type 0
AreClosed three count seats = (number : ℕ) (seat : SeatShape) → number < count
    → slice_get seats number ≡ Some seat → IsDoneAt three number seat
