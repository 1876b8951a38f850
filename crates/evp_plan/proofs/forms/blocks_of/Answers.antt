use Rattle.evp_plan.proofs.LaidSteps.{next_block, all_blocks}
use Rattle.evp_plan.proofs.forms.blocks_of.Goals as goal

pub loop-step-preserved : goal.loop-step-preserved
loop-step-preserved c =
    next_block c.args.steps.now c.loop-step.step-index _ c.loop-step.blocks.items c.push.new.self.items c.in-Some.block
    c.loop-step-test.true c.loop-step.invariant c.in-Some.ensures c.in_ok-push.ensures.items

pub returns : goal.returns
returns c = all_blocks c.args.steps.now c.loop-step.step-index c.loop-step.blocks.items c.loop-step-test.false c.loop-step.invariant
