use Rattle.evp_queue.proofs.Parts.{parts}
use Rattle.evp_queue.proofs.queue.parted.Goals as goal

pub another-requires-clause-rule : goal.another-requires-clause-rule
another-requires-clause-rule g c = parts _ _ _ _ _ _ _ c.requires.queue.2 c.requires.queue.1
