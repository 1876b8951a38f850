use Rattle.std.proofs.Common.{◌≡◌, Some, false, [], ◌∷◌, ap, refl}
use Rattle.evp_queue.specs.Counts.{count_at}
use Rattle.evp_queue.specs.Rule.{progress}
use Rattle.evp_queue.specs.Passes.{giver_of}
use Rattle.evp_speed.proofs.Flows.{step_at}
use Rattle.evp_speed.proofs.queue_alone.by_turns.Goals as goal

pub give-requires-clause-next : goal.give-requires-clause-next
give-requires-clause-next g c =
    let p = c.loop-position.position in
    let is : giver_of c.loop-position.give ≡ progress (Some record { number = c.args.number }) false ((0, p) ∷ []) =
    c.loop-position.invariant.2 in
    (ap (λ v. count_at 0 v.counts) is, (_, ap (λ v. v.whole) is, (p, step_at c.args.number p c.loop-position-test.true, refl)))
