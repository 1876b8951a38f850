use Rattle.evp_crew.specs.Opened.{AreNone}
use Rattle.evp_crew.proofs.opening.no_takes.Given as goal

abbrev pub invariant-loop : goal.invariant-loop
invariant-loop l = AreNone l.counter l.takes.items
