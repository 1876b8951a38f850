use Rattle.std.proofs.Common.{take}
use Rattle.evp_plan.specs.Fills.{AreFillsOf}
use Rattle.evp_plan.proofs.cutting.fills_of.Given as goal

abbrev pub invariant-loop-test : goal.invariant-loop-test
invariant-loop-test l = AreFillsOf l.order (take l.test-index l.tests) l.fills.items
