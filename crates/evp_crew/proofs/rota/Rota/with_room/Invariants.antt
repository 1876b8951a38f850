use Rattle.std.proofs.Common.{Some}
use Rattle.evp_crew.specs.Rota.{three}
use Rattle.evp_crew.proofs.rota.Rota.with_room.Given as goal

abbrev pub ghosts-open_for : goal.ghosts-open_for
ghosts-open_for a = record { three = Some (three a.job.now a.cache.now a.crew.now) }
