use Rattle.std.proofs.Common.{arith}
use Rattle.evp_plan.proofs.MovesWithin.{cells_all, long_all}
use Rattle.evp_plan.proofs.moves.whole_with.Goals as goal

pub returns-clause-cells : goal.returns-clause-cells
returns-clause-cells c =
    let fits = c.if-end_of-from.false in
    let end = c.end_of.ensures.value in
    cells_all c.args.from c.args.order c.args.steps.now c.args.count c.args.room c.moves_over.result c.moves_over.ensures
    (omega (arith, fits, end))

pub returns-clause-length : goal.returns-clause-length
returns-clause-length c =
    long_all c.args.from c.args.order c.args.steps.now c.args.count c.args.room c.moves_over.result c.moves_over.ensures
