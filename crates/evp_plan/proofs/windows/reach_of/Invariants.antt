use Rattle.std.proofs.Common.{take}
use Rattle.evp_plan.specs.Lanes.{IsReachOf}
use Rattle.evp_plan.proofs.windows.reach_of.Given as goal

abbrev pub invariant-loop-test : goal.invariant-loop-test
invariant-loop-test l = IsReachOf (take l.test-index l.tests) l.reach
