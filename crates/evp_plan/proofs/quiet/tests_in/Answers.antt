use Rattle.evp_plan.proofs.QuietLists.{tests_next}
use Rattle.evp_plan.proofs.quiet.tests_in.Goals as goal

pub loop-steps-preserved : goal.loop-steps-preserved
loop-steps-preserved c =
    tests_next c.args.table.now c.loop-steps.steps-index c.steps-item.result c.as_slice-in-loop-steps.result.now c.in_ok-more.more
    c.loop-steps.tests.items c.as_slice.result.now c.push.new.self.items c.requires c.loop-steps-test.true c.steps-item.is
    c.as_slice-in-loop-steps.ensures c.as_slice.ensures.value c.in_ok-more.ensures c.loop-steps.invariant c.in_ok-push.ensures.items
