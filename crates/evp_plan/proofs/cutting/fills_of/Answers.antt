use Rattle.evp_plan.proofs.CutFills.{no_tests, tests_more, tests_all}
use Rattle.evp_plan.proofs.cutting.fills_of.Goals as goal

pub loop-test-init : goal.loop-test-init
loop-test-init c = no_tests c.args.order c.args.tests.now c.new-fills.result.items

pub loop-test-preserved : goal.loop-test-preserved
loop-test-preserved c =
    tests_more c.args.order c.args.tests.now c.loop-test.test-index c.test-item.result c.loop-test.fills.items c.push_test.new.fills.items
    c.loop-test.invariant c.loop-test-test.true c.test-item.is (c.in_ok-push_test.ensures c.if-not-branch.false)

pub returns : goal.returns
returns c =
    tests_all c.args.order c.args.tests.now c.loop-test.test-index c.loop-test.fills.items c.loop-test.invariant c.loop-test-test.false
