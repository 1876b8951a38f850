use Rattle.std.proofs.Common.{append-nil}
use Rattle.evp_report.proofs.Chains.{all_put, then}
use Rattle.evp_report.specs.Report.{round_line}
use Rattle.evp_report.proofs.report.write_round_line.Goals as goal

pub returns : goal.returns
returns g c =
    let line = rw c.new-pieces.ensures at c.in_ok-put_round_line.ensures in
    all_put (rw (append-nil (round_line c.args.round)) at (then line c.flush.ensures.passes)) c.flush.ensures.none_waits
