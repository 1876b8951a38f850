use Rattle.std.proofs.Common.{◌≡◌, length, take}
use Rattle.evp_core.specs.Held.{IsHeld}
use Rattle.evp_core.specs.WorldTurned.{HaveTurned}
use Rattle.evp_core.proofs.world.World.run.Given as goal

abbrev pub invariant-loop-actor : goal.invariant-loop-actor
invariant-loop-actor l = record {
  held : IsHeld l.self;
  count : length l.self.actors ≡ length l.fn.self.actors;
  turned : HaveTurned l.fn.self l.self (take l.actor-index l.actors);
}
