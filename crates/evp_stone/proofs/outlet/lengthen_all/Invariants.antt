use Rattle.evp_stone.specs.Turning.{everywhere}
use Rattle.evp_stone.proofs.LineUp.{LongerSoFar}
use Rattle.evp_stone.proofs.outlet.lengthen_all.Given as goal

abbrev pub invariant-loop-position : goal.invariant-loop-position
invariant-loop-position l = LongerSoFar everywhere l.fn.outlets l.outlets l.position
