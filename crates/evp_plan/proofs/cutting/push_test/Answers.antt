use Rattle.evp_plan.proofs.CutFills.{some_told}
use Rattle.evp_plan.proofs.cutting.push_test.Goals as goal

pub returns : goal.returns
returns c = λ _.
    some_told c.args.order c.args.test.now c.in-Some.words c.args.fills.now.items c.push_cut.new.fills.items c.in-Some.is
    c.in_ok-push_cut.ensures
