use Rattle.std.proofs.Common.{length, refl, sym, ap, ◌∙◌, arith}
use Rattle.std.proofs.lemmas.Bool.{false≢true}
use Rattle.std.proofs.lemmas.Option.{slice_get_read}
use Rattle.evp_crew.specs.Rota.{three}
use Rattle.evp_crew.specs.Alone.{IsInOrder}
use Rattle.evp_stone.specs.Closed.{IsClosed}
use Rattle.evp_crew.specs.Seat.{SeatShape}
use Rattle.evp_crew.proofs.Rotation.{order_set, closed_set}
use Rattle.evp_crew.proofs.Working.{closed_at}
use Rattle.evp_crew.proofs.alone.turn_each.Goals.{in-Closed, in-Moved}
use Rattle.evp_crew.proofs.alone.turn_each.Goals as goal

pub loop-number-preserved : goal.loop-number-preserved
loop-number-preserved g c =
    let job = c.args.job.now in
    let t = three job c.args.cache.now c.args.crew.now in
    let seats = c.loop-number.seats in
    let number = c.loop-number.number in
    let was = c.index-seats-number.result in
    let new = c.turn.new.seat in
    let inv = c.loop-number.invariant in
    let same = inv.0.long in
    let first = c.requires.long in
    let below = c.loop-number-test.true in
    let at = slice_get_read seats (length seats) number was refl (omega arith) c.index-seats-number.is in
    let turned : IsInOrder t was.number new = record {
      number_is = c.turn.ensures.order.number_is ∙ ap (λ (s : SeatShape). s.number) (sym c.index-seats-number.is);
      of = c.turn.ensures.order.of;
    } in
    let order = order_set t seats number was new at _ inv.0 turned in
    let place = (inv.0.each number was at).number_is in (
      order,
      λ all. elim c.match-turn.branch [
        | in-Closed w ↦ closed_set t seats number was new at record {
          number_is = turned.number_is ∙ place;
          done = record {
            of = turned.of;
            kept = c.turn.ensures.kept;
            closed = closed_at c.turn.result (IsClosed job new.actor.role) w.in-Closed.is c.turn.ensures.closed;
          };
        } (inv.1 (sym w.all-is ∙ all))
        | in-Moved w ↦ absurd (false≢true (sym w.all-is ∙ all))
      ],
    )

pub returns-clause-closed : goal.returns-clause-closed
returns-clause-closed g c = λ is number seat below at.
    let long = c.loop-number.invariant.0.long in
    let first = c.requires.long in
    let past = c.loop-number-test.false in
    c.loop-number.invariant.1 is number seat (omega arith) at
