use Rattle.std.proofs.Common.{◌≡◌, ◌+◌, Option, length, set, refl, sym, subst, arith}
use Rattle.std.proofs.lemmas.List.{with_items_is}
use Rattle.std.proofs.lemmas.Option.{slice_get_read}
use Rattle.evp_crew.specs.declared.passes.Taker.{Taker}
use Rattle.evp_crew.specs.Parting.{AreRests, AreTakes, AreOpening}
use Rattle.evp_crew.proofs.OpeningFacts.{takes_one, opening_one}
use Rattle.evp_crew.proofs.opening.Queues.seats.Goals as goal

pub seat-requires-clause-ready : goal.seat-requires-clause-ready
seat-requires-clause-ready g c =
    let takes = c.loop-actor.takes in
    let actor = c.loop-actor.actor in
    let are = c.loop-actor.invariant.1 in
    let at = slice_get_read takes.items (length takes.items) actor c.index_mut.result.now refl (omega arith) c.index_mut.ensures.value in
    record {
      take = rw c.take-take.ensures.value (are.each actor c.index_mut.result.now at (omega arith));
      gives = c.in_ok-gives.ensures.shares;
    }

pub loop-actor-preserved : goal.loop-actor-preserved
loop-actor-preserved g c =
    let job = c.args.job.now in
    let crew = c.args.self.crew in
    let cells = c.args.cache.now in
    let actor = c.loop-actor.actor in
    let was = c.loop-actor.invariant in
    let rests = c.in_ok-gives.ensures.rests in
    let before = was.0.count in
    let now = rests.count in
    let whole = c.loop-actor.rests.ok.0 in
    let long : length c.shares.new.rests ≡ c.loop-actor.rests.len = omega arith in (
      subst (AreRests crew job (actor + 1)) (sym (with_items_is c.loop-actor.rests c.shares.new.rests long)) rests,
      subst (λ (o : Option Taker). AreTakes crew job (actor + 1) (set c.loop-actor.takes.items actor o)) (sym c.take-take.ensures.after)
          (takes_one job crew actor c.loop-actor.takes.items was.1),
      subst (AreOpening job cells crew (actor + 1)) (sym c.in_ok-add.ensures)
          (opening_one job cells crew actor c.loop-actor.seats.items c.in_ok-seat.field-0 c.in_ok-seat.ensures was.2),
    )
