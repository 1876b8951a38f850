use Rattle.std.proofs.Common.{◌≡◌, ◌+◌, length}
use Rattle.std.specs.Prelude.{All}
use Rattle.std.specs.Vec.Iter.{into_iter_items}
use Rattle.evp_crew.specs.Rota.{three, AreServing}
use Rattle.evp_crew.specs.Rule.{IsOfThree}
use Rattle.evp_crew.proofs.seating.a_rota_each.Given as goal

abbrev pub invariant-loop-seat : goal.invariant-loop-seat
invariant-loop-seat g l =
    AreServing (three l.job l.cache l.crew) l.rotas.items l.desks.items
    × (All (IsOfThree (three l.job l.cache l.crew)) (into_iter_items l.seat-iterator)
    × (length l.rotas.items + length (into_iter_items l.seat-iterator) ≡ length l.fn.seats.items))
