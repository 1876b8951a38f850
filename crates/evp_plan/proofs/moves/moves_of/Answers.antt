use Rattle.std.proofs.Common.{ℕ, subst}
use Rattle.std.specs.Prelude.{replicate, IfOk, IfSome}
use Rattle.evp_plan.specs.Cells.{AreMovesWithin, end_of}
use Rattle.evp_plan.specs.declared.cell.Cell.TheVariants.{Keep}
use Rattle.evp_plan.proofs.MovesWithin.{over_all}
use Rattle.evp_plan.proofs.moves.moves_of.Goals as goal

pub returns : goal.returns
returns c =
    let steps = c.args.steps.now in
    let Over : ℕ → Type 0 = λ n. IfOk c.moves_over.result
    (λ made. IfSome made (AreMovesWithin c.args.from c.args.order steps (replicate n Keep) 0)) in
    over_all c.args.from c.args.order steps (replicate (end_of steps) Keep) c.moves_over.result
    (subst Over c.end_of-end.ensures.value c.moves_over.ensures)
