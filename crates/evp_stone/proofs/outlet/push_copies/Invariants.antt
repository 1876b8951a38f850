use Rattle.evp_stone.specs.Lining.{IsOf}
use Rattle.evp_stone.specs.Turning.{everywhere}
use Rattle.evp_stone.specs.Working.{outlets_of, sending_of}
use Rattle.evp_stone.proofs.LineUp.{LinedSoFar}
use Rattle.evp_stone.proofs.outlet.push_copies.Given as goal

abbrev pub invariant-loop-position : goal.invariant-loop-position
invariant-loop-position l =
    LinedSoFar (IsOf (sending_of l.sending)) everywhere (outlets_of l.outlets) l.position l.waiting.items
