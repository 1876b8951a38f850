use Rattle.std.proofs.Common.{◌∙◌, sym, ap}
use Rattle.evp_format.specs.Describing.{field_name}
use Rattle.evp_format.proofs.Names.{field_name-within, field_name-past}
use Rattle.evp_format.proofs.description.writing.field_name.Goals as goal

pub returns-in-Some-clause-value : goal.returns-in-Some-clause-value
returns-in-Some-clause-value c =
    let h = c.in-Some.ensures.lookup in
    c.as_bytes.ensures.value ∙ field_name-within c.args.fields.now c.from.result c.in-Some.field.now h.3.0 h.1
    ∙ ap (field_name c.args.fields.now) c.from.ensures

pub returns-in-None-clause-value : goal.returns-in-None-clause-value
returns-in-None-clause-value c =
    let h = c.in-None.ensures.lookup in
    sym (field_name-past c.args.fields.now c.from.result h.3) ∙ ap (field_name c.args.fields.now) c.from.ensures
