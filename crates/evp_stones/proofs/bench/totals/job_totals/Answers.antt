use Rattle.std.proofs.Common.{◌∙◌}
use Rattle.evp_stones.proofs.JobTotals.{short_stones, totals_are}
use Rattle.evp_stones.proofs.bench.totals.job_totals.Goals as goal

pub of_stones-requires-clause-short : goal.of_stones-requires-clause-short
of_stones-requires-clause-short c = short_stones c.args.job.now c.parts.ensures.kept c.args.accounts.now c.requires

pub returns : goal.returns
returns c = c.of_stones.ensures ∙ totals_are c.args.job.now c.parts.ensures.kept c.args.accounts.now c.requires
