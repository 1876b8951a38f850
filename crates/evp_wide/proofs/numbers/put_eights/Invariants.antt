use Rattle.std.proofs.Common.{◌≡◌, ◌*◌}
use Rattle.evp_wide.specs.Zeros.{with_signed}
use Rattle.evp_wide.proofs.numbers.put_eights.Given as goal

abbrev pub invariant-loop-eight : goal.invariant-loop-eight
invariant-loop-eight l =
    l.out ≡ with_signed l.to l.size l.to_order l.from l.at l.width l.from_order (l.eight * 8) l.initial.out
