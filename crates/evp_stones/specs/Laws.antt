-- The law of the report's definition, as a statement.
use Rattle.std.specs.Prelude.{◌≡◌, List, ℕ}
use Rattle.evp_depot.specs.Files.{Files}
use Rattle.evp_job.specs.declared.job_text.JobText.{JobText}
use Rattle.evp_job.specs.TextView.{text_of}
use Rattle.evp_report.specs.Report.{report}
use Rattle.evp_stones.specs.Run.{walked}
use Rattle.evp_stones.specs.Steps.{◌>>=◌, seen_by}
use Rattle.evp_stones.specs.WholeJob.{with_files}

-- two kept jobs have one answer to a run, and one to a walk
pub record HaveOneReport (a b : JobText) (files : Files) : Type 0 where
  pub run : seen_by report (with_files a files) ≡ seen_by report (with_files b files)
  pub walk : (order : List ℕ)
      → (with_files a files >>= walked order files) ≡ (with_files b files >>= walked order files)

-- A document is kept in vectors, which have more than their elements. It is one and the same for
-- each job that is kept of it.
abbrev pub OneReport : Type 0
OneReport = (a b : JobText) (files : Files) → text_of a ≡ text_of b → HaveOneReport a b files
