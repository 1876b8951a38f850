-- What `bench N W` answers: what carrying a large job comes to.
use Rattle.std.specs.Prelude.{◌≡◌, ℕ, List, ◌++◌, codes, length, Result, Ok}
use Rattle.hex.specs.Hex.{encode_lower}
use Rattle.sha2.specs.Sha256.{sha256}
use Rattle.serde_json.specs.Written.{compact_text}
use Rattle.evp_file.specs.declared.file.RecordFile.{RecordFile}
use Rattle.evp_gen.specs.Document.{job_value}
use Rattle.evp_gen.specs.Senders.{all_sent}
use Rattle.evp_job.specs.declared.job_text.JobText.{JobText}
use Rattle.evp_job.specs.Filling.{bare_job, filled}
use Rattle.evp_job.specs.Job.{StatesJob}
use Rattle.evp_job.specs.TextView.{text_of}
use Rattle.evp_report.specs.Report.{counted, counts_text, line_end, report}
use Rattle.evp_stone.specs.JobShape.{JobShape}
use Rattle.evp_stones.specs.Accepted.{AreRead}
use Rattle.evp_stones.specs.declared.bench.totals.Totals.{Totals}
use Rattle.evp_stones.specs.declared.refusal.Refusal.{Refusal}
use Rattle.evp_stones.specs.Totals.{totals_of}

-- `bench N routes R passed P dropped D refused F held H`
abbrev pub totals_line : ℕ → ℕ → Totals → List ℕ
totals_line records routes totals =
    counted (codes "bench ") records ++ counted (codes " routes ") routes
    ++ counts_text totals.passed totals.dropped totals.refused totals.held

-- `digest HEX`
abbrev pub digest_line : List ℕ → List ℕ
digest_line digest = codes "digest " ++ encode_lower digest ++ line_end

-- the totals of a job with so many records of each source, and the SHA-256 of its report
abbrev pub bench_text : ℕ → JobShape → List ℕ
bench_text records job =
    totals_line records (length job.routes) (totals_of job) ++ digest_line (sha256 (report job))

-- the job that the generator's document states, with the generator's files
pub record IsMadeJob (records : ℕ) (job : JobShape) : Type 0 where
  pub text : JobText
  pub states : StatesJob (compact_text (job_value records)) (Ok (text_of text))
  pub files : List RecordFile
  pub read : AreRead text.formats.items text.limit (all_sent records) files
  pub fills : filled (bare_job text) files ≡ Ok job

-- the line of such a job; nothing is refused
pub record IsBench (records : ℕ) (answer : Result (List ℕ) Refusal) : Type 0 where
  pub job : JobShape
  pub is : IsMadeJob records job
  pub answered : answer ≡ Ok (bench_text records job)
