use Rattle.std.proofs.Common.{◌≡◌, drop}
use Rattle.evp_plan.specs.Clean.{is_clean}
use Rattle.evp_plan.proofs.gathering.is_clean.Given as goal

abbrev pub invariant-loop-k : goal.invariant-loop-k
invariant-loop-k l = is_clean (drop l.k l.places) (drop l.k l.keep) (drop l.k l.constant) ≡ is_clean l.places l.keep l.constant
