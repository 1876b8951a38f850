use Rattle.std.proofs.Common.{◌≡◌, Some, false, [], ◌∷◌}
use Rattle.evp_queue.specs.Rule.{progress}
use Rattle.evp_queue.specs.Passes.{giver_of, GivesTo}
use Rattle.evp_speed.proofs.queue_two.give_all.Given as goal

-- so many steps were given
abbrev pub invariant-loop-position : goal.invariant-loop-position
invariant-loop-position g l =
    GivesTo l.queue l.pass × (giver_of l.pass ≡ progress (Some record { number = l.number }) false ((0, l.position) ∷ []))
