use Rattle.std.proofs.Common.{sym, ap, subst, ◌∙◌}
use Rattle.crossbeam_utils.specs.Padded.{padded_value}
use Rattle.evp_crew.specs.declared.passes.Passes.{Passes}
use Rattle.evp_crew.specs.declared.seat.Equipped.{Equipped}
use Rattle.evp_crew.specs.Rota.{three}
use Rattle.evp_crew.specs.Rule.{IsOfThree}
use Rattle.evp_crew.specs.Seat.{SeatShape}
use Rattle.evp_crew.specs.Seated.{seat_of}
use Rattle.evp_crew.specs.Visit.{Sits}
use Rattle.evp_crew.proofs.Sitting.{sits_down, gets_up}
use Rattle.evp_crew.proofs.visiting.visit.Goals as goal

pub turns-turn-requires : goal.turns-turn-requires
turns-turn-requires g c =
    let t = three c.args.office.now.job.now c.args.office.now.cache.now c.args.office.now.crew.now in
    let seat : SeatShape = seat_of c.seat.inside in
    let of : IsOfThree t seat = subst (IsOfThree t) (sym c.seat.view_is) c.requires.seat in
    let held = c.deref_mut-2.ensures.value ∙ ap padded_value c.deref_mut.ensures.value in
    let began = c.new-port.ensures
    ∙ ap (λ (p : Passes). record { crew = t.crew; job = t.job; passes = p })
    (c.replace.ensures.value ∙ ap (λ (e : Equipped). e.passes) held) in
    subst (λ (e : Equipped). Sits t seat.number e.actor c.new-port.result) (sym held)
    (sits_down t seat c.new-port.result of c.seat.invariant began)

pub invariant_of-seat : goal.invariant_of-seat
invariant_of-seat g c =
    let t = three c.args.office.now.job.now c.args.office.now.cache.now c.args.office.now.crew.now in
    let seat : SeatShape = seat_of c.seat.inside in
    let of : IsOfThree t seat = subst (IsOfThree t) (sym c.seat.view_is) c.requires.seat in
    gets_up t seat c.turns-turn.new.actor c.turns-turn.new.port c.into_passes.result of c.turns-turn.ensures.sits
    c.into_passes.ensures.passes
