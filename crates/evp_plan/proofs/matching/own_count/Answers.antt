use Rattle.evp_plan.proofs.Known.{count_is}
use Rattle.evp_plan.proofs.matching.own_count.Goals as goal

pub returns : goal.returns
returns c = count_is c.args.from.now c.args.count c.field_at.result c.number_origin.result c.field_at.ensures c.number_origin.ensures
