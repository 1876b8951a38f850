use Rattle.evp_runner.proofs.Measured.{at_index}
use Rattle.evp_runner.proofs.numbers.test_numbers.Goals as goal

pub test_step-requires-clause-can : goal.test_step-requires-clause-can
test_step-requires-clause-can c = c.requires.can c.loop-step.step-index _
    (at_index c.args.steps.now c.loop-step.step-index _ c.loop-step-test.true)
