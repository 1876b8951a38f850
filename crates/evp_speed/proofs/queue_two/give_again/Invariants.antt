use Rattle.std.proofs.Common.{◌≡◌}
use Rattle.evp_queue.specs.Passes.{giver_of, GivesTo}
use Rattle.evp_speed.proofs.queue_two.give_again.Given as goal

abbrev pub invariant-loop : goal.invariant-loop
invariant-loop g l = GivesTo l.queue l.pass × (giver_of l.pass ≡ giver_of l.fn.pass) × (l.entry ≡ l.fn.entry)
