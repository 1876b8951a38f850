-- The laws of the job that the generator's document states.
use Rattle.std.specs.Prelude.{◌≡◌, ℕ, ◌≤◌, List, [], ◌∷◌, Result, Ok}
use Rattle.evp_file.specs.declared.file.RecordFile.{RecordFile}
use Rattle.evp_gen.specs.Document.{job_value}
use Rattle.evp_gen.specs.Senders.{sent_file}
use Rattle.evp_job.specs.declared.fault.JobFault.{JobFault}
use Rattle.evp_job.specs.declared.job_text.JobText.{JobText}
use Rattle.evp_job.specs.Filling.{bare_job, filled, job_with_files}
use Rattle.evp_job.specs.Job.{IsStatedBy}
use Rattle.evp_job.specs.TextShape.{TextShape}
use Rattle.evp_job.specs.TextView.{text_of}
use Rattle.evp_profile.specs.declared.profile.Profile.TheVariants.{Le64, Le32, Be64, Be32}
use Rattle.evp_stones.specs.BenchJob.{bench_job}

-- the document states this job, and nothing else
pub record StatesBenchJob (n : ℕ) : Type 0 where
  pub states : IsStatedBy (job_value n) (Ok (bench_job n))
  pub alone : (answer : Result TextShape JobFault) → IsStatedBy (job_value n) answer
      → answer ≡ Ok (bench_job n)

-- the files of the senders, as they are read
abbrev pub bench_files : ℕ → List RecordFile
bench_files n = sent_file Le64 0 n ∷ sent_file Le32 1 n ∷ sent_file Be64 2 n
    ∷ sent_file Be32 3 n ∷ []

-- no refusal comes where the job is filled with its files
abbrev pub FillsBenchJob : ℕ → Type 0
FillsBenchJob n = (text : JobText) → text_of text ≡ bench_job n
    → filled (bare_job text) (bench_files n) ≡ Ok (job_with_files (bare_job text) (bench_files n))

abbrev pub EachBenchIsAJob : Type 0
EachBenchIsAJob = (n : ℕ) → n ≤ 20000 → StatesBenchJob n × FillsBenchJob n
