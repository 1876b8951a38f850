use Rattle.std.proofs.Common.{◌≡◌, List, length}
use Rattle.evp_crew.specs.declared.rota.Rota.{Rota}
use Rattle.evp_crew.specs.declared.three.Three.{Three}
use Rattle.evp_crew.specs.Carried.{AreSlots}
use Rattle.evp_crew.specs.Gathering.{AllWork}
use Rattle.evp_crew.proofs.gathering.gathered.Given as goal

abbrev pub invariant-loop : goal.invariant-loop
invariant-loop l =
    (length l.slots.items ≡ l.fn.count)
    × ((rotas : List Rota) (three : Three) → AllWork rotas three l.fn.workers.items
    → AllWork rotas three l.workers.items × AreSlots three l.slots.items)
