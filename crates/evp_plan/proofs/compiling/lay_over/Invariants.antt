use Rattle.std.proofs.Common.{◌≡◌, take}
use Rattle.evp_plan.specs.Cells.{overlaid}
use Rattle.evp_plan.proofs.compiling.lay_over.Given as goal

abbrev pub invariant-loop-k : goal.invariant-loop-k
invariant-loop-k l = l.cells ≡ overlaid l.place (take l.k l.upper) l.initial.cells
