use Rattle.evp_crew.proofs.OpeningFacts.{OpenedSoFar}
use Rattle.evp_crew.proofs.opening.Queues.new.Given as goal

abbrev pub invariant-loop-stone : goal.invariant-loop-stone
invariant-loop-stone g l = OpenedSoFar l.job l.made.crew l.stone l.made.rests.items l.made.takes.items
