use Rattle.evp_plan.proofs.WordLists.{words_more}
use Rattle.evp_plan.proofs.fitting.words_in.Goals as goal

pub loop-test-preserved : goal.loop-test-preserved
loop-test-preserved c =
    words_more c.args.size c.args.tests.now c.loop-test.test-index c.test-item.result c.loop-test.words.items
    c.push_words.new.words.items c.loop-test.invariant c.loop-test-test.true c.test-item.is c.in_ok-push_words.ensures
