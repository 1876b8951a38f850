use Rattle.std.proofs.Common.{◌≡◌, sym, ap, subst, length, ◌∙◌}
use Rattle.std.proofs.lemmas.List.{append-nil}
use Rattle.evp_crew.specs.Carried.{AreSlots}
use Rattle.evp_crew.specs.Done.{AreDone}
use Rattle.evp_crew.specs.Seat.{SeatShape}
use Rattle.evp_crew.proofs.Gathered.{done_front, done_last}
use Rattle.evp_crew.proofs.gathering.place_all.Goals.{in-Some, in_default}
use Rattle.evp_crew.proofs.gathering.place_all.Goals as goal

pub loop-preserved : goal.loop-preserved
loop-preserved c =
    let was = c.loop.invariant in
    let left = c.pop.new.self.items in
    elim c.match-pop.branch [
      | in-Some w ↦
          let seat : SeatShape = w.in-Some.seat in
          let items = w.in-Some.ensures.items in (
            ap length w.slots-is ∙ w.place.ensures.long ∙ was.0,
            λ three done slots.
                let so_far = was.1 three done slots in (
                  done_front three c.loop.seats.items left seat items so_far.0,
                  subst (AreSlots three) (sym w.slots-is)
                      (w.place.ensures.slots three (done_last three c.loop.seats.items left seat items so_far.0) so_far.1),
                ),
          )
      | in_default w ↦
          let same : left ≡ c.loop.seats.items = sym (w.in_default.ensures.items ∙ append-nil left) in (
            ap length w.slots-is ∙ was.0,
            λ three done slots.
                let so_far = was.1 three done slots in
                (subst (AreDone three) (sym same) so_far.0, subst (AreSlots three) (sym w.slots-is) so_far.1),
          )
    ]

pub returns-clause-slots : goal.returns-clause-slots
returns-clause-slots c = λ three done slots. (c.loop.invariant.1 three done slots).1
