use Rattle.std.proofs.Common.{◌≡◌, length}
use Rattle.evp_crew.specs.Gathering.{AllWork}
use Rattle.evp_crew.specs.Rota.{three, AreServing}
use Rattle.evp_crew.proofs.carrying.hired.Given as goal

abbrev pub invariant-loop-number : goal.invariant-loop-number
invariant-loop-number g l =
    AreServing (three l.office.job.now l.office.cache.now l.office.crew.now) l.office.rotas.now l.desks
    × (AllWork l.office.rotas.now (three l.office.job.now l.office.cache.now l.office.crew.now) l.all.items
    × (length l.all.items ≡ l.number))
