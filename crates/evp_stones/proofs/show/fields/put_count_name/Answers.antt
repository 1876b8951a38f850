use Rattle.std.proofs.Common.{codes}
use Rattle.evp_report.proofs.Chains.{then, cut, longer}
use Rattle.evp_stones.proofs.show.fields.put_count_name.Goals as goal

pub returns-in_err-put : goal.returns-in_err-put
returns-in_err-put g c = cut (codes "]") (longer c.args.name.now c.in_err-put.ensures) c.from_residual.ensures.0

pub returns-in_err-put-2 : goal.returns-in_err-put-2
returns-in_err-put-2 g c = cut (codes "]") (then c.in_ok-put.ensures c.in_err-put-2.ensures) c.from_residual-in_err-put-2.ensures.0

pub returns : goal.returns
returns g c = then (then c.in_ok-put.ensures c.in_ok-put-2.ensures) c.put-3.ensures
