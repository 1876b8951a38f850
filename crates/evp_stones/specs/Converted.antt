-- The text of records that were converted.
use Rattle.std.specs.Prelude.{ℕ, List, map}
use Rattle.evp_report.specs.Report.{numbered_line}
use Rattle.evp_stones.specs.declared.convert.converted.Converted.{Converted}
use Rattle.evp_stones.specs.Numbered.{numbered}
use Rattle.evp_stones.specs.Outcomes.{outcome_text}

abbrev pub converted_text : Converted → List ℕ
converted_text made = numbered numbered_line 0 (map (outcome_text made.to) made.outcomes.items)
