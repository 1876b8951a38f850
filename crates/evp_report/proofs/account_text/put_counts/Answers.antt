use Rattle.std.proofs.Common.{ap, length}
use Rattle.evp_report.proofs.Chains.{then, cut, longer}
use Rattle.evp_report.proofs.account_text.put_counts.Goals as goal

pub returns-in_err-put_counted : goal.returns-in_err-put_counted
returns-in_err-put_counted g c =
    cut _ (longer _ (longer _ (longer _ c.in_err-put_counted.ensures)))
    c.from_residual.ensures.0

pub returns-in_err-put_counted-2 : goal.returns-in_err-put_counted-2
returns-in_err-put_counted-2 g c =
    cut _ (longer _ (longer _ (then c.in_ok-put_counted.ensures c.in_err-put_counted-2.ensures)))
    c.from_residual-in_err-put_counted-2.ensures.0

pub returns-in_err-put_counted-3 : goal.returns-in_err-put_counted-3
returns-in_err-put_counted-3 g c =
    let third = rw (ap length c.as_slice.ensures.value) at c.in_err-put_counted-3.ensures in
    cut _ (longer _ (then (then c.in_ok-put_counted.ensures c.in_ok-put_counted-2.ensures) third))
    c.from_residual-in_err-put_counted-3.ensures.0

pub returns-in_err-put_counted-4 : goal.returns-in_err-put_counted-4
returns-in_err-put_counted-4 g c =
    let third = rw (ap length c.as_slice.ensures.value) at c.in_ok-put_counted-3.ensures in
    cut _ (then (then (then c.in_ok-put_counted.ensures c.in_ok-put_counted-2.ensures) third) c.in_err-put_counted-4.ensures)
    c.from_residual-in_err-put_counted-4.ensures.0

pub returns : goal.returns
returns g c =
    let third = rw (ap length c.as_slice.ensures.value) at c.in_ok-put_counted-3.ensures in
    then (then (then (then c.in_ok-put_counted.ensures c.in_ok-put_counted-2.ensures) third) c.in_ok-put_counted-4.ensures)
    c.put.ensures
