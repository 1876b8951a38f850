use Rattle.evp_plan.proofs.Known.{step_is}
use Rattle.evp_plan.proofs.matching.step_of.Goals as goal

pub returns : goal.returns
returns c =
    step_is c.args.rows c.args.from.now c.args.all.now c.args.k c.args.field.now c.field_named-partner.result c.op_of.result c.row_of.result
    c.inner_of.result c.field_named-partner.ensures c.op_of.ensures
    c.row_of.ensures.value c.inner_of.ensures
