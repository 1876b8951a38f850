use Rattle.std.proofs.Common.{◌≡◌}
use Rattle.evp_plan.specs.Cells.{resized}
use Rattle.evp_plan.proofs.compiling.resized.Given as goal

abbrev pub invariant-loop-k : goal.invariant-loop-k
invariant-loop-k l = l.made.items ≡ resized l.k l.more l.cells
