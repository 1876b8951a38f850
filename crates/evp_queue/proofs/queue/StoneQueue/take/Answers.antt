use Rattle.evp_queue.proofs.Takes.{takes, sees}
use Rattle.evp_queue.proofs.queue.StoneQueue.take.Goals as goal

pub try_pop_as-requires-clause-rule : goal.try_pop_as-requires-clause-rule
try_pop_as-requires-clause-rule g c = takes _ _ _ _ _ _ c.requires.2 c.requires.1

pub pop_as-answer-requires-clause-rule : goal.pop_as-answer-requires-clause-rule
pop_as-answer-requires-clause-rule g c =
    rw c.in_default.ensures.rule (takes _ _ _ _ _ _ c.requires.2 c.requires.1, sees _ _ _ _ _ _ c.requires.1)
