use Rattle.std.proofs.Common.{◌≡◌}
use Rattle.std.specs.Prelude.{All}
use Rattle.std.specs.Vec.Iter.{into_iter_items}
use Rattle.evp_crew.specs.Rota.{three_of, ServesIn}
use Rattle.evp_crew.specs.Rule.{IsServed}
use Rattle.evp_crew.proofs.seating.put_all.Given as goal

abbrev pub invariant-loop-seat : goal.invariant-loop-seat
invariant-loop-seat g l =
    (ServesIn l.rota l.pass × (three_of l.pass ≡ three_of l.fn.pass))
    × All (IsServed (three_of l.fn.pass)) (into_iter_items l.seat-iterator)
