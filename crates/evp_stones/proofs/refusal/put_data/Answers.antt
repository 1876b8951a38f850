use Rattle.evp_report.proofs.Chains.{then, cut, longer}
use Rattle.evp_stones.proofs.refusal.put_data.Goals as goal

pub returns-in_err-put_named : goal.returns-in_err-put_named
returns-in_err-put_named g c = cut _ (longer _ (longer _ c.in_err-put_named.ensures)) c.from_residual.ensures.0

pub returns-in_err-put_counted : goal.returns-in_err-put_counted
returns-in_err-put_counted g c =
    cut _ (longer _ (then c.in_ok-put_named.ensures c.in_err-put_counted.ensures)) c.from_residual-in_err-put_counted.ensures.0

pub returns-in_err-put : goal.returns-in_err-put
returns-in_err-put g c =
    cut _ (then (then c.in_ok-put_named.ensures c.in_ok-put_counted.ensures) c.in_err-put.ensures) c.from_residual-in_err-put.ensures.0

pub returns : goal.returns
returns g c =
    then (then (then c.in_ok-put_named.ensures c.in_ok-put_counted.ensures) c.in_ok-put.ensures)
    (rw c.as_bytes.ensures.value at c.put-2.ensures)
