use Rattle.std.proofs.Common.{◌≡◌, ◌-◌, suc, subst, sym, List, ℕ, arith}
use Rattle.evp_format.specs.declared.field.Field.{Field}
use Rattle.evp_plan.specs.Building.{IsRow}
use Rattle.evp_plan.proofs.Tables.{row_laid}
use Rattle.evp_plan.proofs.table.row_fields.Goals as goal

pub returns : goal.returns
returns c =
    let P : List Field → Type 0 = λ fields. IsRow c.args.from.now c.args.row fields in
    let P' : ℕ → Type 0 = λ row. IsRow c.args.from.now row c.record_type.result.now.fields in
    let row : suc (c.args.row - 1) ≡ c.args.row = omega arith in
    subst P (sym c.as_slice.ensures)
    (subst P' row (row_laid c.args.from.now (c.args.row - 1) c.record_type.result.now c.record_type.ensures.laid
    c.record_type.ensures.value))
