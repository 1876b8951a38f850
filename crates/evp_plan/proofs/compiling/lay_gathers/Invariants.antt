use Rattle.std.proofs.Common.{◌≡◌, drop}
use Rattle.evp_plan.specs.Cells.{gathers_over}
use Rattle.evp_plan.proofs.compiling.lay_gathers.Given as goal

abbrev pub invariant-loop-gather : goal.invariant-loop-gather
invariant-loop-gather l = gathers_over (drop l.gather-index l.gathers) l.cells ≡ gathers_over l.gathers l.initial.cells
