use Rattle.evp_plan.proofs.Known.{single_is}
use Rattle.evp_plan.proofs.matching.single_origin.Goals as goal

pub returns-in-One-Number : goal.returns-in-One-Number
returns-in-One-Number c =
    single_is c.args.from.now c.args.field.now c.in-One-Number.field-0-1 c.field_named.result c.origin_of.result c.in-One-Number.is-0
    c.in-One-Number.is-1 c.field_named.ensures c.origin_of.ensures
