use Rattle.evp_report.proofs.Chains.{then, cut, longer}
use Rattle.evp_report.proofs.account_text.put_arrival.Goals as goal

pub returns-in_err-put_counted : goal.returns-in_err-put_counted
returns-in_err-put_counted g c =
    cut _ (longer _ (longer _ c.in_err-put_counted.ensures))
    c.from_residual.ensures.0

pub returns-in_err-put : goal.returns-in_err-put
returns-in_err-put g c =
    cut _ (longer _ (then c.in_ok-put_counted.ensures c.in_err-put.ensures))
    c.from_residual-in_err-put.ensures.0

pub returns-in_err-put_owned : goal.returns-in_err-put_owned
returns-in_err-put_owned g c =
    cut _ (then (then c.in_ok-put_counted.ensures c.in_ok-put.ensures) c.in_err-put_owned.ensures)
    c.from_residual-in_err-put_owned.ensures.0

pub returns : goal.returns
returns g c =
    then (then (then c.in_ok-put_counted.ensures c.in_ok-put.ensures) c.in_ok-put_owned.ensures) c.put-2.ensures
