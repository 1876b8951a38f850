use Rattle.evp_plan.proofs.Compiled.{resized_next}
use Rattle.evp_plan.proofs.compiling.resized.Goals as goal

pub loop-k-preserved : goal.loop-k-preserved
loop-k-preserved c = resized_next c.loop-k.k c.args.more c.args.cells.now c.loop-k.made.items c.push.new.self.items c.cell_or.result
    c.loop-k.invariant c.cell_or.ensures c.in_ok-push.ensures.items
