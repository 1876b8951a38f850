use Rattle.std.proofs.Common.{append-nil}
use Rattle.evp_report.proofs.Chains.{all_put, then}
use Rattle.evp_stones.specs.Summary.{summary_text}
use Rattle.evp_stones.proofs.bench.summary.Summary.write.Goals as goal

pub returns : goal.returns
returns g c =
    let text = rw c.new-pieces.ensures at c.in_ok-put.ensures in
    all_put (rw (append-nil (summary_text c.args.self.now)) at (then text c.flush.ensures.passes)) c.flush.ensures.none_waits
