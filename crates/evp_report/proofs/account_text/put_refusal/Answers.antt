use Rattle.evp_report.proofs.Chains.{then, cut, longer}
use Rattle.evp_report.proofs.account_text.put_refusal.Goals as goal

pub returns-in_err-put_counted : goal.returns-in_err-put_counted
returns-in_err-put_counted g c =
    cut _ (longer _ (longer _ c.in_err-put_counted.ensures))
    c.from_residual.ensures.0

pub returns-in_err-put : goal.returns-in_err-put
returns-in_err-put g c =
    cut _ (longer _ (then c.in_ok-put_counted.ensures c.in_err-put.ensures))
    c.from_residual-in_err-put.ensures.0

pub returns-in_err-put_reason : goal.returns-in_err-put_reason
returns-in_err-put_reason g c =
    cut _ (then (then c.in_ok-put_counted.ensures c.in_ok-put.ensures) c.in_err-put_reason.ensures)
    c.from_residual-in_err-put_reason.ensures.0

pub returns : goal.returns
returns g c =
    then (then (then c.in_ok-put_counted.ensures c.in_ok-put.ensures) c.in_ok-put_reason.ensures) c.put-2.ensures
