use Rattle.std.proofs.Common.{◌≡◌, length}
use Rattle.evp_crew.specs.declared.three.Three.{Three}
use Rattle.evp_crew.specs.Carried.{AreSlots}
use Rattle.evp_crew.specs.Done.{AreDone}
use Rattle.evp_crew.proofs.gathering.place_all.Given as goal

abbrev pub invariant-loop : goal.invariant-loop
invariant-loop l =
    (length l.slots ≡ length l.fn.slots)
    × ((three : Three) → AreDone three l.fn.seats.items → AreSlots three l.fn.slots
    → AreDone three l.seats.items × AreSlots three l.slots)
