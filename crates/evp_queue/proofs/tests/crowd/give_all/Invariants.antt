use Rattle.std.proofs.Common.{◌≡◌, ◌+◌, Some, false, [], ◌∷◌}
use Rattle.evp_queue.specs.Rule.{progress}
use Rattle.evp_queue.specs.Passes.{giver_of, GivesTo}
use Rattle.evp_queue.proofs.tests.crowd.give_all.Given as goal

abbrev pub invariant-loop-position : goal.invariant-loop-position
invariant-loop-position g l =
    GivesTo l.queue l.pass
    × (giver_of l.pass ≡ progress (Some record { number = l.number }) false
    ((l.first, l.position) ∷ (l.first + 1, l.position) ∷ (l.first + 2, l.position) ∷ []))
