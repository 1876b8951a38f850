-- The text of what was worked out for a line.
use Rattle.std.specs.Prelude.{ℕ, List}
use Rattle.evp_report.specs.Report.{report}
use Rattle.evp_stones.specs.declared.output.Output.{Output}
use Rattle.evp_stones.specs.declared.output.Output.TheVariants as output
use Rattle.evp_stones.specs.ListingText.{listing_text}
use Rattle.evp_stones.specs.Summary.{summary_text}

abbrev pub output_text : Output → List ℕ
output_text (output.Listed listing) = listing_text listing
output_text (output.Reported job) = report job
output_text (output.Summed summary) = summary_text summary
