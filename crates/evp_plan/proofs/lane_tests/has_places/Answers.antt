use Rattle.std.proofs.Common.{arith}
use Rattle.evp_plan.proofs.LaneLists.{lane_fills}
use Rattle.evp_plan.proofs.lane_tests.has_places.Goals as goal

pub returns-then-signs-k : goal.returns-then-signs-k
returns-then-signs-k c = λ _ bytes same.
    lane_fills c.args.picks.now c.args.signs.now bytes c.loop-k.k c.args.pick c.args.sign (omega (arith, c.told-picks, c.loop-k-test.true))
    (omega (arith, c.told-signs, c.loop-k-test.true)) c.if-picks-k.true c.if-signs-k.true same
