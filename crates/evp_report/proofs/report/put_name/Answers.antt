use Rattle.evp_report.proofs.Chains.{then, cut}
use Rattle.evp_report.proofs.report.put_name.Goals as goal

pub returns-in_err-put_source : goal.returns-in_err-put_source
returns-in_err-put_source g c =
    cut _ (rw c.from.ensures at c.in_err-put_source.ensures)
    c.from_residual.ensures.0

pub returns : goal.returns
returns g c =
    then (rw c.from.ensures at c.in_ok-put_source.ensures) (rw c.as_slice.ensures at c.put_stones.ensures)
