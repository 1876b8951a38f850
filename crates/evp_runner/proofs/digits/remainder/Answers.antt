use Rattle.std.proofs.Common.{sym}
use Rattle.std.proofs.Math.Nat.{mod-eq_of_lt}
use Rattle.evp_runner.proofs.digits.remainder.Goals as goal

pub returns-then-n-modulus : goal.returns-then-n-modulus
returns-then-n-modulus c = sym (mod-eq_of_lt c.if-n-modulus.true)
