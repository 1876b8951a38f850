use Rattle.std.proofs.Common.{◌≡◌, ◌∙◌, ap, sym, subst, suc, ◌+◌, ◌∷◌, [], List, ℕ, length, arith, add-one, length-append}
use Rattle.evp_plan.specs.declared.step.Step.{Step}
use Rattle.evp_plan.specs.Building.{IsTable, steps_for}
use Rattle.evp_plan.proofs.Tables.{table_more}
use Rattle.evp_plan.proofs.table.add_rows.Goals as goal

pub loop-row-preserved : goal.loop-row-preserved
loop-row-preserved c =
    let from = c.args.from.now in
    let to = c.args.to.now in
    let sender = c.row_fields.result.now in
    let all = c.type_fields-all.result.now in
    let table = c.loop-row.table.items in
    let steps = c.in_ok-steps_of.field-0 in
    let rows : length c.types.result.now + 1 ≡ suc (length from.types) = add-one (length c.types.result.now)
    ∙ ap (λ types. suc (length types)) c.types.ensures.value in
    let steps_are : steps ≡ steps_for (suc (length from.types)) sender all 0 all = c.in_ok-steps_of.ensures
    ∙ ap (λ (r : ℕ). steps_for r sender all 0 all) rows in
    let more = table_more from to table steps c.loop-row.row c.args.n sender all c.loop-row.invariant.0 c.loop-row.invariant.1
    c.row_fields.ensures c.type_fields-all.ensures.type_of steps_are in
    let pushed = c.in_ok-push.ensures.items in
    let Table : List (List Step) → Type 0 = λ t. IsTable from to t in
    let long = ap length pushed ∙ length-append table (steps ∷ []) in
    let before = c.loop-row.invariant.1 in
    (subst Table (sym pushed) more, omega (arith, long, before))
