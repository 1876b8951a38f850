use Rattle.evp_crew.proofs.Rotas.{opens}
use Rattle.evp_crew.proofs.rota.open_for.Goals as goal

pub another-other-requires-clause-rule : goal.another-other-requires-clause-rule
another-other-requires-clause-rule g c = rw (c.requires.first.1, c.requires.opening) (opens _ _)
