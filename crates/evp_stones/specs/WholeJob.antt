-- The job that a document makes with the record files of its sources.
use Rattle.std.specs.Prelude.{◌≡◌, ◌⊎◌, ℕ, List, map, string_bytes, Result, Ok, Err}
use Rattle.evp_depot.specs.Files.{Files}
use Rattle.evp_job.specs.declared.fault.JobFault.{JobFault}
use Rattle.evp_job.specs.declared.job_text.JobText.{JobText}
use Rattle.evp_job.specs.declared.sources.SourceText.{SourceText}
use Rattle.evp_job.specs.Filling.{bare_job, filled}
use Rattle.evp_job.specs.TextView.{text_of}
use Rattle.evp_stone.specs.JobShape.{JobShape}
use Rattle.evp_stones.specs.declared.refusal.Refusal.{Refusal}
use Rattle.evp_stones.specs.declared.refusal.Refusal.TheVariants.{Job}
use Rattle.evp_stones.specs.Fetching.{IsHeld}
use Rattle.evp_stones.specs.JobText.{IsJobOf}
use Rattle.evp_stones.specs.RecordFiles.{files_named, IsNext}
use Rattle.evp_stones.specs.Steps.{◌>>=◌, seen_by}

-- the names of the sources' files
abbrev pub file_names : JobText → List (List ℕ)
file_names text = map (λ (source : SourceText). string_bytes source.file) text.sources.items

-- a job, or the fault that it has with its files
abbrev pub fits : {X : Type 0} → Result X JobFault → Result X Refusal
fits (Ok job) = Ok job
fits (Err fault) = Err (Job fault)

-- the job with the files of its sources, which are fetched and read first
abbrev pub with_files : JobText → Files → Result JobShape Refusal
with_files text files = do
  records ← files_named text.formats.items text.limit files (file_names text)
  fits (filled (bare_job text) records)

-- the document of this name states a job, which is kept so, and that job has its files
pub record IsWholeJob (name : List ℕ) (files : Files) (answer : Result JobShape Refusal) :
    Type 0 where
  pub text : Result JobText Refusal
  pub is : IsJobOf name files (seen_by text_of text)
  pub answered : answer ≡ (text >>= λ kept. with_files kept files)

-- the file of this name belongs to a source of the job, the files before it are sound, and it is
-- held
pub record IsSourceFile (job : List ℕ) (files : Files) (name : List ℕ) : Type 0 where
  pub text : JobText
  pub is : IsJobOf job files (Ok (text_of text))
  pub next : IsNext text.formats.items text.limit (file_names text) files name

-- a read under the name may be one that the whole job waits for
abbrev pub IsJobRead : List ℕ → Files → List ℕ → Type 0
IsJobRead job files name = IsHeld job files name ⊎ IsSourceFile job files name
