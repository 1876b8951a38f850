-- What `run JOB N` and `walk JOB ORDER` answer: the report of the job.
use Rattle.std.specs.Prelude.{◌≡◌, ◌⊎◌, ℕ, ◌+◌, List, length, Result, Ok}
use Rattle.evp_depot.specs.Files.{Files}
use Rattle.evp_report.specs.Report.{report}
use Rattle.evp_stone.specs.JobShape.{JobShape}
use Rattle.evp_stones.specs.declared.refusal.Refusal.{Refusal}
use Rattle.evp_stones.specs.Fetching.{fetched, IsHeld}
use Rattle.evp_stones.specs.Order.{longest_order, turns_of}
use Rattle.evp_stones.specs.Steps.{◌>>=◌, seen_by}
use Rattle.evp_stones.specs.WholeJob.{IsJobRead, IsWholeJob}

-- the report of the job of this name, or why there is none
pub record IsRun (name : List ℕ) (files : Files) (answer : Result (List ℕ) Refusal) : Type 0 where
  pub job : Result JobShape Refusal
  pub is : IsWholeJob name files job
  pub answered : answer ≡ seen_by report job

-- how many actors a job has
abbrev pub actors_of : JobShape → ℕ
actors_of job = length job.sources + length job.stones

-- the turns that the file of this name lists
abbrev pub turns_named : ℕ → List ℕ → Files → Result (List ℕ) Refusal
turns_named actors name files = do
  bytes ← fetched files longest_order name
  turns_of actors name bytes

-- the report, whatever turns are listed; they are read behind all that the job is made of
abbrev pub walked : List ℕ → Files → JobShape → Result (List ℕ) Refusal
walked order files job = do
  turns ← turns_named (actors_of job) order files
  Ok (report job)

pub record IsWalk (name order : List ℕ) (files : Files) (answer : Result (List ℕ) Refusal) : Type 0
  where
    pub job : Result JobShape Refusal
    pub is : IsWholeJob name files job
    pub answered : answer ≡ (job >>= walked order files)

-- the file of this name lists the turns of a job that is whole, and it is held
pub record IsOrderFile (job order : List ℕ) (files : Files) (name : List ℕ) : Type 0 where
  pub whole : JobShape
  pub is : IsWholeJob job files (Ok whole)
  pub held : IsHeld order files name

-- a read under the name may be one that the line waits for
abbrev pub IsWalkRead : List ℕ → List ℕ → Files → List ℕ → Type 0
IsWalkRead job order files name = IsJobRead job files name ⊎ IsOrderFile job order files name
