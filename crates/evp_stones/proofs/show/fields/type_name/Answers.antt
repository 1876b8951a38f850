use Rattle.std.proofs.Common.{◌∙◌, sym, ap}
use Rattle.evp_format.specs.Describing.{type_name}
use Rattle.evp_format.proofs.Names.{type_name-within, type_name-past}
use Rattle.evp_stones.proofs.show.fields.type_name.Goals as goal

pub returns-in-Some : goal.returns-in-Some
returns-in-Some c =
    let h = c.in-Some.ensures.lookup in
    c.as_bytes.ensures.value ∙ type_name-within c.args.types.now c.from.result c.in-Some.record_type.now h.3.0 h.1
    ∙ ap (type_name c.args.types.now) c.from.ensures

pub returns-in-None : goal.returns-in-None
returns-in-None c =
    let h = c.in-None.ensures.lookup in
    sym (type_name-past c.args.types.now c.from.result h.3) ∙ ap (type_name c.args.types.now) c.from.ensures
