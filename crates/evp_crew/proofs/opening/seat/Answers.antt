use Rattle.evp_crew.proofs.SeatOpens.{seat_opens}
use Rattle.evp_crew.proofs.opening.seat.Goals as goal

pub invariant_of-result : goal.invariant_of-result
invariant_of-result c =
    let actor = c.in_ok-actor.ensures in
    rw (c.in_ok-equipped.ensures.ok, c.new-equipped.ensures, c.of.ensures, c.of-2.ensures, c.of-3.ensures)
    (seat_opens c.args.job.now c.parts-kept.ensures.kept c.args.number c.args.crew.now c.args.passes c.requires.ready
    c.args.cache.now c.in_ok-actor.actor c.requires.number c.requires.cache c.requires.declared actor.opens.numbered actor.state)
