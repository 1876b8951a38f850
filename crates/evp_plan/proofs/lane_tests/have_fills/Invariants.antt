use Rattle.std.proofs.Common.{length}
use Rattle.evp_wide.specs.Gathered.{AreNone}
use Rattle.evp_plan.specs.Lanes.{HaveFills, AreInside}
use Rattle.evp_plan.proofs.lane_tests.have_fills.Given as goal

abbrev pub invariant-loop-left : goal.invariant-loop-left
invariant-loop-left l = AreInside l.at l.bytes l.left × (AreNone l.all → HaveFills l.at l.bytes l.left → HaveFills l.at l.bytes l.windows)

abbrev pub decreases-loop-left : goal.decreases-loop-left
decreases-loop-left l = length l.left
