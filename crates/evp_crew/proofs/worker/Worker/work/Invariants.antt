use Rattle.evp_crew.specs.Done.{WorksAt, GoesOnWith}
use Rattle.evp_crew.specs.Rota.{three}
use Rattle.evp_crew.proofs.worker.Worker.work.Given as goal

abbrev pub invariant-loop : goal.invariant-loop
invariant-loop g l =
    WorksAt l.office.rotas.now (three l.office.job.now l.office.cache.now l.office.crew.now) l.self
    × GoesOnWith l.office.rotas.now (three l.office.job.now l.office.cache.now l.office.crew.now) l.next
