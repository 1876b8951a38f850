-- What a call that reads from a depot does to it.
use Rattle.std.specs.Prelude.{◌≡◌, ℕ, ◌≤◌, Option, OnSome}
use Rattle.evp_depot.specs.Counts.{Rose}
use Rattle.evp_depot.specs.Files.{Files}

-- Neither count falls. Where the answer is that nothing is there, the misses rose, and where it is
-- that something went wrong, the faults did; else the faults stay. What the depot tells that it
-- holds, it tells again.
pub record Reads {D : Type 0} (told : D → Option Files) (misses_of faults_of : D → ℕ)
    (old new : D) (Absent Failed : Type 0) : Type 0 where
  pub misses : misses_of old ≤ misses_of new
  pub faults : faults_of old ≤ faults_of new
  pub missed : Absent → Rose (misses_of old) (misses_of new)
  pub failed : Failed → Rose (faults_of old) (faults_of new)
  pub faultless : ¬ Failed → faults_of new ≡ faults_of old
  pub still_held : OnSome (told old) (told new ≡ told old)
