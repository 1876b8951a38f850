use Rattle.evp_plan.proofs.Compiled.{overlaid_none, overlaid_next}
use Rattle.evp_plan.proofs.compiling.lay_over.Goals as goal

pub loop-k-init : goal.loop-k-init
loop-k-init c = overlaid_none c.args.place c.args.cells.now

pub loop-k-preserved : goal.loop-k-preserved
loop-k-preserved c = overlaid_next c.args.place c.loop-k.k c.args.upper.now c.args.cells.now c.loop-k.cells c.over.result _ _
    c.loop-k-test.true c.requires c.loop-k.invariant c.over.ensures
