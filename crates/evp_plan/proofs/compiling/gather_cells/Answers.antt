use Rattle.evp_plan.proofs.Compiled.{blend_next, blend_end}
use Rattle.evp_plan.proofs.compiling.gather_cells.Goals as goal

pub loop-k-preserved : goal.loop-k-preserved
loop-k-preserved c =
    let b = c.args.gather.now.blend in
    blend_next c.args.gather.now.signed c.args.gather.now.at c.loop-k.k _ _ _ b.mask.places b.keep b.constant c.loop-k.cells.items
    c.push.new.self.items c.blend_cell.result c.loop-k-test.true b.mask.sixteen b.keeps b.sets
    c.loop-k.invariant c.blend_cell.ensures c.in_ok-push.ensures.items

pub returns : goal.returns
returns c =
    let b = c.args.gather.now.blend in
    blend_end c.args.gather.now.signed c.args.gather.now.at c.loop-k.k b.mask.places b.keep b.constant c.loop-k.cells.items
    c.loop-k-test.false b.mask.sixteen b.keeps b.sets c.loop-k.invariant
