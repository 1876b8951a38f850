use Rattle.std.proofs.Common.{◌≡◌, drop}
use Rattle.evp_plan.specs.Clean.{are_paired}
use Rattle.evp_plan.proofs.pairing.are_paired.Given as goal

abbrev pub invariant-loop-k : goal.invariant-loop-k
invariant-loop-k l = are_paired (drop l.k l.firsts) (drop l.k l.seconds) (drop l.k l.keeps) ≡ are_paired l.firsts l.seconds l.keeps
