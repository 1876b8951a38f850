use Rattle.std.proofs.Common.{codes}
use Rattle.evp_report.specs.Report.{counted, line_end}
use Rattle.evp_report.proofs.Chains.{then, cut, longer}
use Rattle.evp_stones.proofs.bench.summary.put_totals.Goals as goal

pub returns-in_err-put_counted : goal.returns-in_err-put_counted
returns-in_err-put_counted g c =
    cut line_end (longer (counted (codes " held ") c.args.totals.now.held) (longer (counted (codes " refused ") c.args.totals.now.refused)
    (longer (counted (codes " dropped ") c.args.totals.now.dropped) c.in_err-put_counted.ensures))) c.from_residual.ensures.0

pub returns-in_err-put_counted-2 : goal.returns-in_err-put_counted-2
returns-in_err-put_counted-2 g c =
    cut line_end (longer (counted (codes " held ") c.args.totals.now.held) (longer (counted (codes " refused ") c.args.totals.now.refused)
    (then c.in_ok-put_counted.ensures c.in_err-put_counted-2.ensures))) c.from_residual-in_err-put_counted-2.ensures.0

pub returns-in_err-put_counted-3 : goal.returns-in_err-put_counted-3
returns-in_err-put_counted-3 g c =
    cut line_end (longer (counted (codes " held ") c.args.totals.now.held)
    (then (then c.in_ok-put_counted.ensures c.in_ok-put_counted-2.ensures) c.in_err-put_counted-3.ensures))
    c.from_residual-in_err-put_counted-3.ensures.0

pub returns-in_err-put_counted-4 : goal.returns-in_err-put_counted-4
returns-in_err-put_counted-4 g c =
    cut line_end (then (then (then c.in_ok-put_counted.ensures c.in_ok-put_counted-2.ensures) c.in_ok-put_counted-3.ensures)
    c.in_err-put_counted-4.ensures) c.from_residual-in_err-put_counted-4.ensures.0

pub returns : goal.returns
returns g c =
    then (then (then (then c.in_ok-put_counted.ensures c.in_ok-put_counted-2.ensures) c.in_ok-put_counted-3.ensures)
    c.in_ok-put_counted-4.ensures) c.put.ensures
