use Rattle.evp_speed.specs.Pairs.{AreOf}
use Rattle.evp_speed.proofs.conversion.checked.Given as goal

abbrev pub invariant-loop-record : goal.invariant-loop-record
invariant-loop-record l = AreOf l.format l.items.items
