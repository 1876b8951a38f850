use Rattle.std.proofs.Common.{refl}
use Rattle.evp_action.specs.MadeRecord.{record_in}
use Rattle.evp_action.proofs.Conversions.{receiver_there, format_at, lent_by, fault_cause}
use Rattle.evp_action.proofs.PackedConversions.{packed_into}
use Rattle.evp_action.proofs.converting.Converter.packed_fully.Goals as goal

pub returns-in-Ok-clause-made : goal.returns-in-Ok-clause-made
returns-in-Ok-clause-made c = λ value has.
    let owned = record_in c.args.item.now in
    let lent = lent_by c.args.self.now.formats.now owned owned c.checked-checked.result refl c.checked-checked.ensures.format
    c.checked-checked.ensures.bytes in
    packed_into c.args.self.now.formats.now owned c.args.to c.args.self.now.limit c.checked-checked.result c.args.found.now
    c.in_ok-plan.plan.now
    c.in-Ok.packed.items value lent c.requires.found c.in_ok-plan.ensures.plan c.in-Ok.ensures.packed has

pub returns-in_ok-fault_reason-in-Err-clause-cause : goal.returns-in_ok-fault_reason-in-Err-clause-cause
returns-in_ok-fault_reason-in-Err-clause-cause c = λ value has.
    let owned = record_in c.args.item.now in
    let lent = lent_by c.args.self.now.formats.now owned owned c.checked-checked.result refl c.checked-checked.ensures.format
    c.checked-checked.ensures.bytes in
    fault_cause c.args.self.now.formats.now owned c.args.to c.args.self.now.limit c.checked-checked.result c.args.found.now
    c.in_ok-plan.plan.now c.in-Err.fault
    _ value _ lent c.requires.found c.in_ok-plan.ensures.plan c.in-Err.ensures.fault
    (format_at _ _ _ _ (receiver_there _ _ _ _ c.requires.found) c.from.ensures c.index-self-from.is)
    c.in_ok-fault_reason-in-Err.ensures has
