use Rattle.evp_plan.proofs.Compiled.{bytes_next}
use Rattle.evp_plan.proofs.compiling.bytes_from.Goals as goal

pub loop-k-preserved : goal.loop-k-preserved
loop-k-preserved c = bytes_next c.args.offset c.loop-k.k c.loop-k.cells.items c.push.new.self.items c.loop-k.invariant
    c.in_ok-push.ensures.items
