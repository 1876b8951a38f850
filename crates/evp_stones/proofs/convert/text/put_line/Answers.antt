use Rattle.std.proofs.Common.{codes}
use Rattle.evp_report.specs.Report.{line_end}
use Rattle.evp_stones.specs.Outcomes.{outcome_text}
use Rattle.evp_report.proofs.Chains.{then, cut, longer}
use Rattle.evp_stones.proofs.convert.text.put_line.Goals as goal

pub returns-in_err-put_counted : goal.returns-in_err-put_counted
returns-in_err-put_counted g c =
    cut line_end (longer (outcome_text c.args.to.now c.args.outcome.now) (longer (codes " ") c.in_err-put_counted.ensures))
    c.from_residual.ensures.0

pub returns-in_err-put : goal.returns-in_err-put
returns-in_err-put g c =
    cut line_end (longer (outcome_text c.args.to.now c.args.outcome.now) (then c.in_ok-put_counted.ensures c.in_err-put.ensures))
    c.from_residual-in_err-put.ensures.0

pub returns-in_err-put_outcome : goal.returns-in_err-put_outcome
returns-in_err-put_outcome g c =
    cut line_end (then (then c.in_ok-put_counted.ensures c.in_ok-put.ensures) c.in_err-put_outcome.ensures)
    c.from_residual-in_err-put_outcome.ensures.0

pub returns : goal.returns
returns g c = then (then (then c.in_ok-put_counted.ensures c.in_ok-put.ensures) c.in_ok-put_outcome.ensures) c.put-2.ensures
