use Rattle.std.proofs.Common.{◌≡◌, length}
use Rattle.evp_crew.specs.declared.three.Three.{Three}
use Rattle.evp_crew.specs.Carried.{AreSlots}
use Rattle.evp_crew.proofs.gathering.no_seats.Given as goal

abbrev pub invariant-loop : goal.invariant-loop
invariant-loop l = (length l.slots.items ≡ l.counter) × ((three : Three) → AreSlots three l.slots.items)
