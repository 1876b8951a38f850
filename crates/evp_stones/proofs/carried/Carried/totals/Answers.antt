use Rattle.std.proofs.Common.{ap, ◌∙◌}
use Rattle.evp_stones.specs.Totals.{totals_of}
use Rattle.evp_stones.proofs.carried.Carried.totals.Goals as goal

pub returns : goal.returns
returns c = c.job_totals.ensures ∙ ap totals_of c.self.view_is
