use Rattle.std.proofs.Common.{◌≡◌, List, length, sym, subst, arith}
use Rattle.std.proofs.lemmas.List.{with_items_is}
use Rattle.evp_crew.specs.Carried.{AreFirst}
use Rattle.evp_crew.specs.Parting.{actors_of}
use Rattle.evp_crew.specs.Rota.{three}
use Rattle.evp_crew.specs.Seat.{SeatShape}
use Rattle.evp_crew.proofs.Rotation.{whole_closed}
use Rattle.evp_crew.proofs.alone.alone.Goals as goal

pub new-requires-then-branch : goal.new-requires-then-branch
new-requires-then-branch g c =
    let job = c.args.job.now in
    let t = three job c.args.cache.now c.in_ok-crew.crew in
    let seats = c.turn_each.new.seats in
    let order = c.in_ok-turn_each.ensures.order in
    let was = c.loop.invariant.long in
    let whole = c.loop.seats.ok.0 in
    let now = order.long in
    let long : length seats ≡ c.loop.seats.len = omega arith in
    subst (λ (l : List SeatShape). AreFirst t (actors_of job) l) (sym (with_items_is c.loop.seats seats long))
    (whole_closed t (actors_of job) seats order (c.in_ok-turn_each.ensures.closed c.if-branch.true))
