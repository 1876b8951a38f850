use Rattle.std.proofs.Common.{◌≡◌}
use Rattle.evp_wide.specs.Zeros.{with_signed}
use Rattle.evp_wide.proofs.numbers.put_few.Given as goal

abbrev pub invariant-loop-k : goal.invariant-loop-k
invariant-loop-k l = l.out ≡ with_signed l.to l.size l.to_order l.from l.at l.width l.from_order l.k l.initial.out
