use Rattle.std.proofs.Common.{◌≡◌, length}
use Rattle.evp_crew.specs.declared.three.Three.{Three}
use Rattle.evp_crew.proofs.Gathered.{SoFar}
use Rattle.evp_crew.specs.Carried.{AreSlots}
use Rattle.evp_crew.proofs.gathering.all_of.Given as goal

abbrev pub invariant-loop-number : goal.invariant-loop-number
invariant-loop-number l =
    (length l.slots.items ≡ length l.fn.slots.items)
    × ((three : Three) → AreSlots three l.fn.slots.items → SoFar three l.number l.slots.items l.seats.items)
