-- The lines of what carrying a large job came to.
use Rattle.std.specs.Prelude.{ℕ, List, ◌++◌}
use Rattle.evp_stones.specs.declared.bench.summary.Summary.{Summary}
use Rattle.evp_stones.specs.Bench.{digest_line, totals_line}

abbrev pub summary_text : Summary → List ℕ
summary_text summary =
    totals_line summary.records summary.routes summary.totals ++ digest_line summary.digest
