use Rattle.evp_core.proofs.Rotation.{InPass}
use Rattle.evp_core.proofs.world.World.pass.Given as goal

abbrev pub invariant-loop-actor : goal.invariant-loop-actor
invariant-loop-actor l = InPass l.fn.self l.self l.actor l.moved
