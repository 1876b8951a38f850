-- Documents and files that have no fault.
use Rattle.std.specs.Prelude.{◌≡◌, ◌≢◌, ℕ, ◌<◌, ◌^◌, List, length, Ok, IsOk}
use Rattle.std.specs.List.{AllZip}
use Rattle.evp_file.specs.declared.file.KnownFormat.{KnownFormat}
use Rattle.evp_file.specs.declared.file.RecordFile.{RecordFile}
use Rattle.evp_file.specs.Reading.{file_of}
use Rattle.evp_job.specs.declared.job.ReadJob.{ReadJob}
use Rattle.evp_job.specs.declared.job.ReadJob.TheVariants.{Memory}
use Rattle.evp_job.specs.Job.{IsRefusalOf}

-- no refusal is one of these bytes, but for want of memory
abbrev pub IsAccepted : List ℕ → Type 0
IsAccepted bytes = (cause : ReadJob) → cause ≢ Memory → ¬ IsRefusalOf bytes cause

-- the bytes are a record file, and few enough to be read
pub record IsReadable (known : List KnownFormat) (limit : ℕ) (bytes : List ℕ) : Type 0 where
  pub file : IsOk (file_of known limit bytes)
  pub short : length bytes < 2 ^ 31

-- each of these bytes is the file of its place
abbrev pub AreRead : List KnownFormat → ℕ → List (List ℕ) → List RecordFile → Type 0
AreRead known limit bytes files =
    AllZip (λ (one : List ℕ) (file : RecordFile). file_of known limit one ≡ Ok file) bytes files
