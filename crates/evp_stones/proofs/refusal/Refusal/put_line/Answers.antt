use Rattle.std.proofs.Common.{append-nil}
use Rattle.evp_report.proofs.Chains.{all_put, then}
use Rattle.evp_stones.specs.Refusals.{refusal_line}
use Rattle.evp_stones.proofs.refusal.Refusal.put_line.Goals as goal

pub returns : goal.returns
returns g c =
    let line = rw c.new-pieces.ensures at c.in_ok-put_ended.ensures in
    all_put (rw (append-nil (refusal_line c.args.self.now)) at (then line c.flush.ensures.passes)) c.flush.ensures.none_waits
