use Rattle.std.proofs.Common.{sym, ap, subst, ◌∙◌}
use Rattle.crossbeam_utils.specs.Padded.{padded_value}
use Rattle.evp_crew.specs.Seat.{SeatShape, IsOf}
use Rattle.evp_crew.specs.Seated.{seat_of}
use Rattle.evp_crew.specs.declared.passes.Passes.{Passes}
use Rattle.evp_crew.specs.declared.seat.Equipped.{Equipped}
use Rattle.evp_stone.proofs.SameActor.{IsSame, role_stays}
use Rattle.evp_crew.proofs.Seated.{seat_after}
use Rattle.evp_crew.proofs.seat.Seat.turn.Goals as goal

pub invariant_of-self : goal.invariant_of-self
invariant_of-self g c =
    let job = c.args.job.now in
    let cells = c.args.cache.now in
    let crew = c.args.crew.now in
    let seat : SeatShape = seat_of c.self.inside in
    let of : IsOf job cells crew seat = subst (IsOf job cells crew) (sym c.self.view_is) c.requires in
    let held = c.deref_mut-2.ensures.value ∙ ap padded_value c.deref_mut.ensures.value in
    let began = c.new-port.ensures ∙ ap (λ (p : Passes). record { crew = crew; job = job; passes = p })
    (c.replace.ensures.value ∙ ap (λ (e : Equipped). e.passes) held) in
    let turned = c.turn-turn.ensures in
    let same = subst (λ (e : Equipped). IsSame e.actor.role c.turn-turn.new.self.role) held
    (role_stays job _ _ _ _ _ turned.turned.role) in
    seat_after seat job cells crew c.turn-turn.new.self c.new-port.result c.turn-turn.new.port c.into_passes.result c.self.invariant of
    began turned.moves turned.state same c.into_passes.ensures.of c.into_passes.ensures.passes
