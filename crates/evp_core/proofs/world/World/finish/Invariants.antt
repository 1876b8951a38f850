use Rattle.evp_core.specs.Progress.{turns_left}
use Rattle.evp_core.proofs.Finish.{InPasses}
use Rattle.evp_core.proofs.world.World.finish.Given as goal

abbrev pub invariant-loop : goal.invariant-loop
invariant-loop l = InPasses l.fn.self l.self

abbrev pub decreases-loop : goal.decreases-loop
decreases-loop l = turns_left l.self
