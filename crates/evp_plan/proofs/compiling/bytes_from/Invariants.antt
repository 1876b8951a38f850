use Rattle.std.proofs.Common.{◌≡◌}
use Rattle.evp_plan.specs.Cells.{bytes_from}
use Rattle.evp_plan.proofs.compiling.bytes_from.Given as goal

abbrev pub invariant-loop-k : goal.invariant-loop-k
invariant-loop-k l = l.cells.items ≡ bytes_from l.offset l.k
