use Rattle.evp_queue.proofs.Opens.{opens}
use Rattle.evp_queue.proofs.queue.opened.Goals as goal

pub another-requires-clause-rule : goal.another-requires-clause-rule
another-requires-clause-rule g c = rw (c.requires.queue.1, c.requires.opening.0) (opens _ _ _ _ _ _ _)
