use Rattle.evp_plan.proofs.Reaches.{reach_more, reach_all}
use Rattle.evp_plan.proofs.windows.reach_of.Goals as goal

pub loop-test-preserved : goal.loop-test-preserved
loop-test-preserved c =
    reach_more c.args.tests.now c.loop-test.test-index c.test-item.result c.loop-test.reach c.end_of.result c.max-reach.result
    c.loop-test.invariant c.loop-test-test.true c.test-item.is c.end_of.ensures c.max-reach.ensures

pub returns : goal.returns
returns c = reach_all c.args.tests.now c.loop-test.test-index c.loop-test.reach c.loop-test.invariant c.loop-test-test.false
