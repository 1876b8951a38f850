use Rattle.std.proofs.Common.{◌∙◌, sym, ap}
use Rattle.evp_format.specs.Describing.{field_name}
use Rattle.evp_format.proofs.Names.{field_name-within, field_name-past}
use Rattle.evp_stones.proofs.show.fields.field_name.Goals as goal

pub returns-in-Some : goal.returns-in-Some
returns-in-Some c =
    let h = c.in-Some.ensures.lookup in
    c.as_bytes.ensures.value ∙ field_name-within c.args.fields.now c.from.result c.in-Some.field.now h.3.0 h.1
    ∙ ap (field_name c.args.fields.now) c.from.ensures

pub returns-in-None : goal.returns-in-None
returns-in-None c =
    let h = c.in-None.ensures.lookup in
    sym (field_name-past c.args.fields.now c.from.result h.3) ∙ ap (field_name c.args.fields.now) c.from.ensures
