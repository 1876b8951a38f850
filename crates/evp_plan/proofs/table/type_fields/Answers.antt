use Rattle.std.proofs.Common.{subst, sym, List, length, ◌≤◌}
use Rattle.evp_format.specs.declared.field.Field.{Field}
use Rattle.evp_plan.specs.Building.{IsTypeOf}
use Rattle.evp_plan.proofs.Tables.{type_laid}
use Rattle.evp_plan.proofs.table.type_fields.Goals as goal

pub returns-clause-type_of : goal.returns-clause-type_of
returns-clause-type_of c =
    let P : List Field → Type 0 = λ fields. IsTypeOf c.args.to.now c.args.n fields in
    subst P (sym c.as_slice.ensures) (type_laid c.args.to.now c.args.n c.record_type.result.now c.record_type.ensures.laid
    c.record_type.ensures.value)

pub returns-clause-few : goal.returns-clause-few
returns-clause-few c =
    let P : List Field → Type 0 = λ fields. length fields ≤ 1024 in
    subst P (sym c.as_slice.ensures) (c.record_type.ensures.laid.each_type c.args.n c.record_type.result.now
    c.record_type.ensures.value).fields_allowed.1
