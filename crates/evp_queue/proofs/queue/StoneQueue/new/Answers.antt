use Rattle.std.proofs.Common.{ap, refl}
use Rattle.evp_queue.proofs.queue.StoneQueue.new.Goals as goal

pub returns-clause-give : goal.returns-clause-give
returns-clause-give g c =
    let give = c.opened-second.ensures.give in
    ((give.0, (c.args.whole.now, ap (λ p. p.whole) give.1), ap (λ p. p.takes) give.1), refl, give.1)
