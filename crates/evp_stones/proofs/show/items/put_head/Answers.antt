use Rattle.evp_report.proofs.Chains.{then, cut, longer}
use Rattle.evp_stones.proofs.show.items.put_head.Goals as goal

pub returns-in_err-put_counted : goal.returns-in_err-put_counted
returns-in_err-put_counted g c = cut _ (longer _ c.in_err-put_counted.ensures) c.from_residual.ensures.0

pub returns-in_err-put_counted-2 : goal.returns-in_err-put_counted-2
returns-in_err-put_counted-2 g c =
    cut _ (then c.in_ok-put_counted.ensures c.in_err-put_counted-2.ensures) c.from_residual-in_err-put_counted-2.ensures.0

pub returns : goal.returns
returns g c = then (then c.in_ok-put_counted.ensures c.in_ok-put_counted-2.ensures) c.put.ensures
