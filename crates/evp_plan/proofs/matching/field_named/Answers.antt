use Rattle.std.proofs.Common.{◌∙◌, sym, refl, ◌≢◌}
use Rattle.evp_plan.proofs.Known.{other_name, same_name, no_name}
use Rattle.evp_plan.proofs.matching.field_named.Goals as goal

pub loop-field-preserved : goal.loop-field-preserved
loop-field-preserved c =
    let differs : c.field-item.result.name ≢ c.args.name.now = λ same. (let yes = c.eq.ensures.same.1 same in cc) in
    other_name c.args.name.now c.args.fields.now c.loop-field.field-index c.field-item.result c.loop-field-test.true c.field-item.is differs
    ∙ c.loop-field.invariant

pub returns-then-eq : goal.returns-then-eq
returns-then-eq c =
    same_name c.args.name.now c.args.fields.now c.loop-field.field-index c.field-item.result c.loop-field-test.true c.field-item.is
    (c.if-eq.ensures.same.0 refl) ∙ c.loop-field.invariant

pub returns : goal.returns
returns c = sym (no_name c.args.name.now c.args.fields.now c.loop-field.field-index c.loop-field-test.false) ∙ c.loop-field.invariant
