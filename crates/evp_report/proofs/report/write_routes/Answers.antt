use Rattle.std.proofs.Common.{append-nil}
use Rattle.evp_report.proofs.Chains.{all_put, then}
use Rattle.evp_report.specs.Report.{routes_lines}
use Rattle.evp_report.proofs.report.write_routes.Goals as goal

pub returns : goal.returns
returns g c =
    let lines = rw c.new-pieces.ensures at c.in_ok-put_routes.ensures in
    all_put (rw (append-nil (routes_lines c.args.job.now c.args.round c.args.routes.now)) at (then lines c.flush.ensures.passes))
    c.flush.ensures.none_waits
