use Rattle.evp_crew.proofs.WayFacts.{WaysSoFar}
use Rattle.evp_crew.proofs.ways.ways.Given as goal

abbrev pub invariant-loop-number : goal.invariant-loop-number
invariant-loop-number l = WaysSoFar l.job l.giver l.target l.number l.numbers.items
