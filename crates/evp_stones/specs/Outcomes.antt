-- What is told of a record that was to be converted.
use Rattle.std.specs.Prelude.{ℕ, List, []}
use Rattle.evp_format.specs.Layout.{Layout}
use Rattle.evp_format.specs.Viewing.{view}
use Rattle.evp_report.specs.Report.{reason_text}
use Rattle.evp_stones.specs.declared.convert.outcome.Outcome.{Outcome}
use Rattle.evp_stones.specs.declared.convert.outcome.Outcome.TheVariants as outcome
use Rattle.evp_stones.specs.Show.{viewed_text}

abbrev pub outcome_text : Layout → Outcome → List ℕ
outcome_text to outcome.Absent = []
outcome_text to (outcome.Value owned) = viewed_text (view to owned.bytes)
outcome_text to (outcome.Refused reason) = reason_text reason
