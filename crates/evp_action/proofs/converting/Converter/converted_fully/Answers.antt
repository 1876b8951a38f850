use Rattle.std.specs.Arc.{arc_value}
use Rattle.evp_action.proofs.PackedConversions.{packed_is_into, packed_into_short}
use Rattle.evp_action.proofs.Works.{valued}
use Rattle.evp_action.proofs.converting.Converter.converted_fully.Goals as goal

pub new-requires : goal.new-requires
new-requires c =
    let formats = c.args.self.now.formats.now in
    let owned = arc_value c.args.item.now in
    let v = valued formats owned c.requires.has in
    packed_into_short formats owned.format c.args.to c.args.self.now.limit v.value c.in_ok-bytes.bytes.items
    (c.in_ok-bytes.ensures.made v.value v.has)

pub returns-clause-made : goal.returns-clause-made
returns-clause-made c = λ value has.
    packed_is_into c.args.self.now.formats.now (arc_value c.args.item.now).format c.args.to c.args.self.now.limit value
    c.in_ok-bytes.bytes.items c.new.result (c.in_ok-bytes.ensures.made value has) c.new.ensures
