use Rattle.std.proofs.Common.{◌≡◌, ◌+◌, List, [], ◌∷◌, length, Option, None, sym, subst, length-append, arith}
use Rattle.evp_crew.specs.declared.three.Three.{Three}
use Rattle.evp_crew.specs.Carried.{AreSlots}
use Rattle.evp_crew.specs.Seat.{SeatShape}
use Rattle.evp_crew.proofs.Gathered.{slots_none}
use Rattle.evp_crew.proofs.gathering.no_seats.Goals as goal

pub loop-preserved : goal.loop-preserved
loop-preserved c =
    let slots = c.loop.slots.items in
    let none : List (Option SeatShape) = None ∷ [] in
    subst (λ (l : List (Option SeatShape)). (length l ≡ c.loop.counter + 1) × ((three : Three) → AreSlots three l))
    (sym c.in_ok-push.ensures.items)
    (omega (arith, length-append slots none, c.loop.invariant.0), λ three. slots_none three slots (c.loop.invariant.1 three))
