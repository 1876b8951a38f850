use Rattle.std.proofs.Common.{◌≡◌, Some, false, [], ◌∷◌}
use Rattle.evp_queue.specs.Rule.{progress}
use Rattle.evp_queue.specs.Passes.{giver_of, GivesTo, TakesFrom}
use Rattle.evp_speed.proofs.queue_alone.by_turns.Given as goal

-- so many steps were given
abbrev pub invariant-loop-position : goal.invariant-loop-position
invariant-loop-position g l =
    GivesTo l.queue l.give × TakesFrom l.queue l.take
    × (giver_of l.give ≡ progress (Some record { number = l.number }) false ((0, l.position) ∷ []))
