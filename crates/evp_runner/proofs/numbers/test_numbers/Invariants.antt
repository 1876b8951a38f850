use Rattle.std.proofs.Common.{◌≡◌, drop}
use Rattle.evp_plan.specs.Measuring.{tested}
use Rattle.evp_plan.specs.Program.{program_of, programs}
use Rattle.evp_runner.specs.StepIn.{image_in}
use Rattle.evp_runner.proofs.numbers.test_numbers.Given as goal

abbrev pub invariant-loop-step : goal.invariant-loop-step
invariant-loop-step l =
    tested (image_in l.measure.sender) l.at (program_of (programs l.measure.plan.now.table) (drop l.step-index l.steps)) l.place
    ≡ tested (image_in l.measure.sender) l.at (program_of (programs l.measure.plan.now.table) l.steps) l.place
