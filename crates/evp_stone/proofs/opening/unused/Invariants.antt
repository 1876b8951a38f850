use Rattle.evp_stone.specs.Working.{outlets_of}
use Rattle.evp_stone.proofs.Started.{UnusedSoFar}
use Rattle.evp_stone.proofs.opening.unused.Given as goal

abbrev pub invariant-loop-position : goal.invariant-loop-position
invariant-loop-position l = UnusedSoFar l.job l.route l.position (outlets_of l.outlets.items)
