use Rattle.std.proofs.Common.{◌*◌}
use Rattle.evp_wide.specs.Blocks.{AreMade}
use Rattle.evp_wide.proofs.elements.move_fours.Given as goal

abbrev pub invariant-loop-four : goal.invariant-loop-four
invariant-loop-four l = AreMade l.mover l.from (l.four * 4) l.out
