use Rattle.evp_report.proofs.Chains.{then, cut}
use Rattle.evp_report.proofs.report.put_round_line.Goals as goal

pub returns-in_err-put_counted : goal.returns-in_err-put_counted
returns-in_err-put_counted g c = cut _ c.in_err-put_counted.ensures c.from_residual.ensures.0

pub returns : goal.returns
returns g c = then c.in_ok-put_counted.ensures c.put.ensures
