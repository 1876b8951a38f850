use Rattle.std.proofs.Common.{arith}
use Rattle.evp_wide.proofs.Blocks.{no_more}
use Rattle.evp_wide.proofs.elements.move_elements.Goals as goal

pub move_rest-requires-clause-done : goal.move_rest-requires-clause-done
move_rest-requires-clause-done c =
    let m = c.args.mover.now in
    let some = m.some in
    let shorter = m.shorter in
    let within = c.move_blocks-done.ensures.within in
    let long = c.move_blocks-done.ensures.length in
    let is = c.requires.out in
    no_more c.move_blocks-done.result c.args.number m.out_size (omega arith) (omega arith)
