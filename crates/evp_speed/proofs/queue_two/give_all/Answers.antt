use Rattle.std.proofs.Common.{ap, refl}
use Rattle.evp_queue.specs.Counts.{count_at}
use Rattle.evp_speed.proofs.Flows.{step_at}
use Rattle.evp_speed.proofs.queue_two.give_all.Goals as goal

pub give_again-requires-clause-next : goal.give_again-requires-clause-next
give_again-requires-clause-next g c =
    let is = c.loop-position.invariant.1 in
    let p = c.loop-position.position in
    (ap (λ v. count_at 0 v.counts) is, (_, ap (λ v. v.whole) is, (p, step_at c.args.number p c.loop-position-test.true, refl)))
