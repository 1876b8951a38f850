use Rattle.evp_queue.specs.Passes.{TakesFrom}
use Rattle.evp_speed.proofs.queue_two.take_all.Given as goal

abbrev pub invariant-loop : goal.invariant-loop
invariant-loop g l = TakesFrom l.queue l.pass
