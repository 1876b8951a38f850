use Rattle.evp_crew.specs.Parting.{AreRests, AreTakes, AreOpening}
use Rattle.evp_crew.proofs.opening.Queues.seats.Given as goal

abbrev pub invariant-loop-actor : goal.invariant-loop-actor
invariant-loop-actor g l =
    AreRests l.crew l.job l.actor l.rests.items × AreTakes l.crew l.job l.actor l.takes.items
    × AreOpening l.job l.cache l.crew l.actor l.seats.items
