use Rattle.std.proofs.Common.{refl, take}
use Rattle.evp_action.specs.MadeRecord.{record_in}
use Rattle.evp_action.proofs.Conversions.{lent_by}
use Rattle.evp_action.proofs.PackedConversions.{packed_into}
use Rattle.evp_action.proofs.converting.Converter.packed_by.Goals as goal

pub returns-in-Some-clause-made : goal.returns-in-Some-clause-made
returns-in-Some-clause-made c = λ value has.
    let formats = c.args.self.now.formats.now in
    let owned = record_in c.args.item.now in
    let held = c.checked-checked.result in
    let lent = lent_by formats owned owned held refl c.checked-checked.ensures.format c.checked-checked.ensures.bytes in
    packed_into formats owned c.args.to c.args.self.now.limit held c.args.found.now c.in_ok-plan.plan.now
    (take c.in-Some.size c.packed_in_room.new.room) value lent c.requires.found c.in_ok-plan.ensures.plan c.in-Some.ensures.made has
