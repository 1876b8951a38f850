use Rattle.std.proofs.Common.{codes}
use Rattle.evp_report.specs.Report.{counted, counts_text}
use Rattle.evp_report.proofs.Chains.{then, cut, longer}
use Rattle.evp_stones.proofs.bench.summary.put_totals_line.Goals as goal

pub returns-in_err-put_counted : goal.returns-in_err-put_counted
returns-in_err-put_counted g c =
    let totals = c.args.totals.now in
    cut (counts_text totals.passed totals.dropped totals.refused totals.held)
    (longer (counted (codes " routes ") c.args.routes) c.in_err-put_counted.ensures) c.from_residual.ensures.0

pub returns-in_err-put_counted-2 : goal.returns-in_err-put_counted-2
returns-in_err-put_counted-2 g c =
    let totals = c.args.totals.now in
    cut (counts_text totals.passed totals.dropped totals.refused totals.held)
    (then c.in_ok-put_counted.ensures c.in_err-put_counted-2.ensures) c.from_residual-in_err-put_counted-2.ensures.0

pub returns : goal.returns
returns g c = then (then c.in_ok-put_counted.ensures c.in_ok-put_counted-2.ensures) c.put_totals.ensures
