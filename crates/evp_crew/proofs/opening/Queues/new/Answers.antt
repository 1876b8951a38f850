use Rattle.evp_crew.proofs.OpeningFacts.{opened_one}
use Rattle.std.proofs.Common.{refl}
use Rattle.evp_crew.proofs.opening.Queues.new.Goals as goal

pub loop-stone-preserved : goal.loop-stone-preserved
loop-stone-preserved g c =
    let old = c.loop-stone.made in
    let made = c.in_ok-queue_of.field-0 in
    rw (c.in_ok-push.ensures.rests, c.in_ok-push.ensures.takes)
    (opened_one c.args.job.now old.crew c.push.new.self.crew made.queue c.in_ok-push.ensures.queues c.loop-stone.stone made old.rests.items
    old.takes.items c.in_ok-queue_of.ensures refl c.loop-stone.invariant)
