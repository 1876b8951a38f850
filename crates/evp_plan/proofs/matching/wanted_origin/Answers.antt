use Rattle.std.proofs.Common.{refl, pos, Some, None}
use Rattle.evp_plan.proofs.Known.{wanted_is}
use Rattle.evp_plan.specs.declared.step.Origin.TheVariants.{Stated}
use Rattle.evp_plan.proofs.matching.wanted_origin.Goals as goal

pub returns-in-Some : goal.returns-in-Some
returns-in-Some c = wanted_is c.args.from.now c.args.all.now c.args.count (Some c.in-Some.field) c.single_origin.result c.in-Some.ensures
    c.single_origin.ensures

pub returns-in-None : goal.returns-in-None
returns-in-None c = wanted_is c.args.from.now c.args.all.now c.args.count None (Stated (pos 0)) c.in-None.ensures refl
