use Rattle.evp_report.proofs.Chains.{then, cut}
use Rattle.evp_stones.specs.Bench.{digest_line}
use Rattle.evp_stones.proofs.bench.summary.Summary.put.Goals as goal

pub returns-in_err-put_totals_line : goal.returns-in_err-put_totals_line
returns-in_err-put_totals_line g c = cut (digest_line c.args.self.now.digest) c.in_err-put_totals_line.ensures c.from_residual.ensures.0

pub returns : goal.returns
returns g c = then c.in_ok-put_totals_line.ensures c.put_digest_line.ensures
