use Rattle.std.proofs.Common.{length, arith}
use Rattle.evp_plan.proofs.Gathered.{within_if}
use Rattle.evp_plan.proofs.gathering.add_gathers.Goals as goal

pub loop-window-preserved : goal.loop-window-preserved
loop-window-preserved c =
    let wide = c.requires.wide in
    let at = c.min-at.ensures in
    c.in_ok-add_gather.ensures (length c.args.cells.now) c.args.reach c.loop-window.invariant
    (within_if c.gather_for-gather.result c.args.to c.min-at.result (length c.args.cells.now) c.args.reach c.gather_for-gather.ensures
    c.requires.room (omega (arith, wide, at)))
