use Rattle.evp_core.specs.Held.{AreOpening}
use Rattle.evp_core.proofs.world.opening.Given as goal

abbrev pub invariant-loop-number : goal.invariant-loop-number
invariant-loop-number l = AreOpening l.job l.cache l.number l.actors.items
