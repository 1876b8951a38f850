use Rattle.evp_report.proofs.Chains.{then, cut}
use Rattle.evp_report.proofs.words.put_steps.Goals as goal

pub returns-in_err-put_step : goal.returns-in_err-put_step
returns-in_err-put_step g c =
    rw c.in-Some.ensures.cases.0 (cut _ c.in_err-put_step.ensures c.from_residual.ensures.0)

pub returns : goal.returns
returns g c = rw c.in-Some.ensures.cases.0 (then c.in_ok-put_step.ensures c.put_others.ensures)
