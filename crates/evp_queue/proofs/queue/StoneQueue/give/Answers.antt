use Rattle.evp_queue.proofs.Gives.{gives}
use Rattle.evp_queue.proofs.Takes.{sees}
use Rattle.evp_queue.proofs.queue.StoneQueue.give.Goals as goal

pub try_push_as-requires-clause-rule : goal.try_push_as-requires-clause-rule
try_push_as-requires-clause-rule g c = gives _ _ _ _ _ _ _ _ c.requires.queue.2 c.requires.next

pub push_as-requires-clause-rule : goal.push_as-requires-clause-rule
push_as-requires-clause-rule g c =
    rw (c.in-Err.ensures.rule.0, c.in-Err.ensures.rule.1)
    (gives _ _ _ _ _ _ _ _ c.requires.queue.2 c.requires.next, sees _ _ _ _ _ _ c.requires.queue.1)
