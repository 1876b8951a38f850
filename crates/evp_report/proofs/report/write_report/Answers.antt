use Rattle.std.proofs.Common.{append-nil}
use Rattle.evp_report.proofs.Chains.{all_put, then}
use Rattle.evp_report.specs.Report.{report}
use Rattle.evp_report.proofs.report.write_report.Goals as goal

pub returns : goal.returns
returns g c =
    let rounds = rw c.new-pieces.ensures at c.in_ok-put_rounds.ensures in
    all_put (rw (append-nil (report c.args.job.now)) at (then rounds c.flush.ensures.passes)) c.flush.ensures.none_waits
