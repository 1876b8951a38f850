use Rattle.std.proofs.Common.{◌≡◌, length}
use Rattle.evp_profile_tests.proofs.tests.limits.wide_type.Given as goal

abbrev pub invariant-loop-k : goal.invariant-loop-k
invariant-loop-k l = length l.chars.items ≡ l.k-counter
