use Rattle.evp_wide.specs.Blocks.{AreMade}
use Rattle.evp_wide.proofs.elements.move_blocks.Given as goal

abbrev pub invariant-loop-block : goal.invariant-loop-block
invariant-loop-block l = AreMade l.mover l.from l.block l.out
