use Rattle.std.proofs.Common.{◌≡◌, drop}
use Rattle.evp_plan.specs.Cells.{gathers_over}
use Rattle.evp_plan.specs.Pairs.{in_pairs}
use Rattle.evp_plan.proofs.compiling.lay_pairs.Given as goal

abbrev pub invariant-loop-pair : goal.invariant-loop-pair
invariant-loop-pair l = gathers_over (in_pairs (drop l.pair-index l.pairs)) l.cells ≡ gathers_over (in_pairs l.pairs) l.initial.cells
