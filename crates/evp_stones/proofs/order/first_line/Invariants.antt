use Rattle.evp_stones.proofs.Lines.{LineSoFar}
use Rattle.evp_stones.proofs.order.first_line.Given as goal

abbrev pub invariant-loop-count : goal.invariant-loop-count
invariant-loop-count l = LineSoFar l.bytes l.count
