use Rattle.std.proofs.Common.{List, [], ◌∙◌, subst}
use Rattle.std.specs.Prelude.{IfSome}
use Rattle.evp_plan.specs.Cells.{IsMovesOf}
use Rattle.evp_plan.specs.declared.step.Step.{Step}
use Rattle.evp_plan.proofs.Painted.{any_or, moves_more}
use Rattle.evp_plan.proofs.moves.all_moves.Goals as goal

pub loop-steps-preserved : goal.loop-steps-preserved
loop-steps-preserved c =
    let k = c.loop-steps.steps-index in
    let made = c.in_ok-moves_of.field-0 in
    let P : List Step → Type 0 = λ steps. IfSome made (IsMovesOf c.args.from c.args.order steps) in
    moves_more c.args.from c.args.order c.args.table.now c.loop-steps.moves.items c.push.new.self.items made k c.loop-steps.invariant.0
    c.loop-steps.invariant.1
    (subst P (c.as_slice.ensures ∙ c.steps-item.is ∙ any_or c.args.table.now k c.steps-item.result [] c.loop-steps-test.true)
    c.in_ok-moves_of.ensures) c.in_ok-push.ensures.items
