use Rattle.std.proofs.Common.{length, arith, ap}
use Rattle.evp_report.proofs.value.fields_of.Goals as goal

pub returns-clause-few : goal.returns-clause-few
returns-clause-few c =
    let type = c.record_type in
    let few = (type.ensures.laid.each_type c.args.spot.type_number type.result.now
    type.ensures.value).fields_allowed.1 in
    let own = ap length c.as_slice.ensures in
    omega (arith, few, own)
