use Rattle.std.proofs.Common.{take}
use Rattle.evp_wide.specs.Gathered.{AreNone}
use Rattle.evp_plan.specs.Lanes.{HaveFills}
use Rattle.evp_plan.proofs.lane_tests.have_few.Given as goal

abbrev pub invariant-loop-window : goal.invariant-loop-window
invariant-loop-window l = (AreNone l.all → AreNone l.initial.all)
    × (AreNone l.all → HaveFills l.at l.bytes (take l.window-index l.windows))
