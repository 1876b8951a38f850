use Rattle.std.proofs.Common.{◌≡◌, take}
use Rattle.evp_plan.specs.Cells.{gather_cells}
use Rattle.evp_plan.proofs.compiling.gather_cells.Given as goal

abbrev pub invariant-loop-k : goal.invariant-loop-k
invariant-loop-k l = l.cells.items ≡ take l.k (gather_cells l.gather)
