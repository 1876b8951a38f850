use Rattle.std.proofs.Common.{arith, replicate}
use Rattle.evp_plan.specs.declared.cell.Cell.TheVariants.{Constant}
use Rattle.evp_plan.proofs.MovesWithin.{over_all}
use Rattle.evp_plan.proofs.Painted.{whole_all}
use Rattle.evp_plan.proofs.moves.whole_of.Goals as goal

pub returns : goal.returns
returns c =
    let fits = c.if-end_of-from.false in
    let end = c.end_of.ensures.value in
    whole_all c.args.from c.args.order c.args.steps.now c.args.count c.moves_over.result
    (over_all c.args.from c.args.order c.args.steps.now (replicate c.args.count (Constant 0)) c.moves_over.result c.moves_over.ensures)
    (omega (arith, fits, end))
