use Rattle.std.proofs.Common.{◌≡◌, true}
use Rattle.evp_crew.specs.Alone.{AreInOrder, AreClosed}
use Rattle.evp_crew.specs.Parting.{actors_of}
use Rattle.evp_crew.specs.Rota.{three}
use Rattle.evp_crew.proofs.alone.turn_each.Given as goal

abbrev pub invariant-loop-number : goal.invariant-loop-number
invariant-loop-number g l =
    AreInOrder (three l.job l.cache l.crew) (actors_of l.job) l.seats
    × (l.all ≡ true → AreClosed (three l.job l.cache l.crew) l.number l.seats)
