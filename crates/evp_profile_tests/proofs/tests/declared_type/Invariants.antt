use Rattle.std.proofs.Common.{◌≡◌, length}
use Rattle.evp_profile_tests.proofs.tests.declared_type.Given as goal

abbrev pub invariant-loop-number : goal.invariant-loop-number
invariant-loop-number l = length l.declared.items ≡ l.number
