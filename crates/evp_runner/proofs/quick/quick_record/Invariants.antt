use Rattle.std.proofs.Common.{◌<◌, ◌^◌}
use Rattle.evp_plan.specs.Quicks.{steps_in}
use Rattle.evp_runner.specs.StepIn.{image_in}
use Rattle.evp_runner.proofs.QuickSizes.{PassesSoFar}
use Rattle.evp_runner.proofs.quick.quick_record.Given as goal

abbrev pub invariant-loop-test : goal.invariant-loop-test
invariant-loop-test l =
    (l.size < 2 ^ 32)
    × PassesSoFar l.measure.plan.now l.measure.limit (image_in l.measure.sender) (steps_in l.list) l.at l.initial.size l.test-index l.size
