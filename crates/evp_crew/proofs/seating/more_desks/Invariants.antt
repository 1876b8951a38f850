use Rattle.std.proofs.Common.{take}
use Rattle.evp_crew.specs.Rota.{three, AreServing}
use Rattle.evp_crew.proofs.seating.more_desks.Given as goal

abbrev pub invariant-loop-place : goal.invariant-loop-place
invariant-loop-place g l =
    AreServing (three l.office.job.now l.office.cache.now l.office.crew.now) l.office.rotas.now l.desks
    × AreServing (three l.office.job.now l.office.cache.now l.office.crew.now) (take l.place l.office.rotas.now) l.more.items
