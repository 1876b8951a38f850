use Rattle.std.proofs.Common.{◌≡◌, ◌+◌, ℕ, ◌∙◌, Option, None, Some, length, set, length-set, refl, sym, ap, subst, arith}
use Rattle.std.proofs.lemmas.Option.{slice_get_read}
use Rattle.evp_crew.specs.Carried.{AreFirst}
use Rattle.evp_crew.specs.Seat.{SeatShape}
use Rattle.evp_crew.proofs.Gathered.{SoFar, so_far_none, so_far_one}
use Rattle.evp_crew.proofs.gathering.all_of.Goals as goal

pub loop-number-init : goal.loop-number-init
loop-number-init c =
    (refl, λ three are. so_far_none three c.args.slots.items c.in_ok-seats.seats.items c.in_ok-seats.ensures.items are)

pub loop-number-preserved : goal.loop-number-preserved
loop-number-preserved c =
    let slots = c.loop-number.slots.items in
    let number = c.loop-number.number in
    let seats = c.loop-number.seats.items in
    let seat : SeatShape = c.in-Some.seat in
    let at = slice_get_read slots (length slots) number c.index_mut.result.now refl (omega arith) c.index_mut.ensures.value in
    let some : c.index_mut.result.now ≡ Some seat = sym c.in-Some.ensures.value in
    let here = at ∙ ap (λ (o : Option SeatShape). Some o) some in (
      length-set slots number c.take.new.self ∙ c.loop-number.invariant.0,
      λ three are.
          subst (λ (o : Option SeatShape). SoFar three (number + 1) (set slots number o) c.add.new.list.items) (sym c.take.ensures.after)
          (subst (SoFar three (number + 1) (set slots number None)) (sym c.in_ok-add.ensures)
          (so_far_one three number slots seats seat here (c.loop-number.invariant.1 three are))),
    )

pub returns : goal.returns
returns c = λ three are.
    let so_far = c.loop-number.invariant.1 three are in
    let past = c.loop-number-test.false in
    let most = c.loop-number.auto.number-end in
    let long = c.args.slots.ok.0 in
    subst (λ (n : ℕ). AreFirst three n c.loop-number.seats.items) (omega (arith, c.len-number-end.ensures)) so_far.first
