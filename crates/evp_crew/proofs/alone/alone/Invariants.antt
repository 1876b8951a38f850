use Rattle.evp_crew.specs.Alone.{AreInOrder}
use Rattle.evp_crew.specs.Parting.{actors_of}
use Rattle.evp_crew.specs.Rota.{three}
use Rattle.evp_crew.proofs.alone.alone.Given as goal

abbrev pub invariant-loop : goal.invariant-loop
invariant-loop g l = AreInOrder (three l.job l.cache l.crew) (actors_of l.job) l.seats.items
