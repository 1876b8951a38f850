use Rattle.evp_action.proofs.Conversions.{receiver_there, format_at, lent_by, into, fault_cause}
use Rattle.evp_action.proofs.converting.Converter.passed.Goals as goal

pub bounds-self-from : goal.bounds-self-from
bounds-self-from c = rw c.from.ensures (receiver_there _ _ _ _ c.requires.found)

pub returns-in_ok-handed_on-in-Ok-clause-made : goal.returns-in_ok-handed_on-in-Ok-clause-made
returns-in_ok-handed_on-in-Ok-clause-made c = λ value has.
    let lent = lent_by _ _ _ c.checked.result c.deref.ensures c.checked.ensures.format c.checked.ensures.bytes in
    into c.args.self.now.formats.now _ c.args.to c.args.self.now.limit c.checked.result c.args.found.now c.in_ok-plan.plan.now
    c.in-Ok.bytes value _
    lent c.requires.found c.in_ok-plan.ensures.plan c.in-Ok.ensures.passed c.in_ok-handed_on-in-Ok.ensures has

pub returns-in_ok-fault_reason-in-Err-clause-cause : goal.returns-in_ok-fault_reason-in-Err-clause-cause
returns-in_ok-fault_reason-in-Err-clause-cause c = λ value has.
    let lent = lent_by _ _ _ c.checked.result c.deref.ensures c.checked.ensures.format c.checked.ensures.bytes in
    fault_cause c.args.self.now.formats.now _ c.args.to c.args.self.now.limit c.checked.result c.args.found.now c.in_ok-plan.plan.now
    c.in-Err.fault
    _ value _ lent c.requires.found c.in_ok-plan.ensures.plan c.in-Err.ensures.fault
    (format_at _ _ _ _ (receiver_there _ _ _ _ c.requires.found) c.from.ensures c.index-self-from.is)
    c.in_ok-fault_reason-in-Err.ensures has
