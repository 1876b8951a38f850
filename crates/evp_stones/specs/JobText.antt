-- The job that the document of a name states, by its text alone.
use Rattle.std.specs.Prelude.{ℕ, List, Result, Ok, Err}
use Rattle.evp_depot.specs.Files.{Files}
use Rattle.evp_job.specs.declared.job.ReadJob.TheVariants as read
use Rattle.evp_job.specs.Job.{StatesJob, IsRefusalOf}
use Rattle.evp_job.specs.TextShape.{TextShape}
use Rattle.evp_stones.specs.declared.refusal.Refusal.{Refusal}
use Rattle.evp_stones.specs.declared.refusal.Refusal.TheVariants.{NotJson, Job}
use Rattle.evp_stones.specs.Fetching.{fetched}
use Rattle.evp_stones.specs.Steps.{Follows}

-- the most bytes of a job document
abbrev pub longest_job : ℕ
longest_job = 1048576

-- the bytes state this job, or are refused so
abbrev pub IsJobIn : List ℕ → Result TextShape Refusal → Type 0
IsJobIn bytes (Ok text) = StatesJob bytes (Ok text)
IsJobIn bytes (Err NotJson) = IsRefusalOf bytes read.NotJson
IsJobIn bytes (Err (Job fault)) = IsRefusalOf bytes (read.Job fault)
IsJobIn bytes (Err other) = ⊥

-- the document of this name does
abbrev pub IsJobOf : List ℕ → Files → Result TextShape Refusal → Type 0
IsJobOf name files answer = Follows IsJobIn (fetched files longest_job name) answer
