use Rattle.evp_crew.specs.Rota.{three}
use Rattle.evp_crew.specs.Visit.{Sits}
use Rattle.evp_crew.proofs.visiting.turns.Given as goal

abbrev pub invariant-loop : goal.invariant-loop
invariant-loop g l = Sits (three l.office.job.now l.office.cache.now l.office.crew.now) l.number l.actor l.port
