use Rattle.evp_crew.specs.Seat.{IsOf}
use Rattle.evp_crew_tests.proofs.tests.turns.answers.Given as goal

abbrev pub invariant-loop-actor : goal.invariant-loop-actor
invariant-loop-actor g l = IsOf l.job l.cache l.crew l.source × IsOf l.job l.cache l.crew l.stone
