use Rattle.evp_runner.proofs.Quieted.{quiet_inside}
use Rattle.evp_runner.proofs.lists.is_quiet_inside.Goals as goal

pub returns-in-Some : goal.returns-in-Some
returns-in-Some c =
    quiet_inside c.args.measure.now.plan.now c.args.step.now c.in-Some.number c.tests.result.now c.is_empty.result c.tests.ensures.ordered
    (c.requires c.in-Some.number c.in-Some.is) c.tests.ensures.tests c.in-Some.is c.is_empty.ensures
