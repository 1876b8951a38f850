use Rattle.std.specs.Arc.{arc_value}
use Rattle.std.specs.Prelude.{take}
use Rattle.evp_action.proofs.Conversions.{lent_by}
use Rattle.evp_action.proofs.PackedConversions.{packed_into, packed_is_into}
use Rattle.evp_action.proofs.converting.Converter.converted.Goals as goal

pub returns-in-Some-clause-made : goal.returns-in-Some-clause-made
returns-in-Some-clause-made c = λ value has.
    let formats = c.args.self.now.formats.now in
    let limit = c.args.self.now.limit in
    let owned = arc_value c.args.item.now in
    let held = c.checked-checked.result in
    let bytes = take c.in-Some.size c.packed_in_room.new.room in
    let lent = lent_by formats owned _ held c.deref.ensures c.checked-checked.ensures.format c.checked-checked.ensures.bytes in
    packed_is_into formats owned.format c.args.to limit value bytes c.new.result
    (packed_into formats owned c.args.to limit held c.args.found.now c.in_ok-plan.plan.now bytes value lent c.requires.found
    c.in_ok-plan.ensures.plan c.in-Some.ensures.made has)
    c.new.ensures
