use Rattle.std.proofs.Common.{◌≡◌, length}
use Rattle.evp_plan.specs.Cells.{AreMovesOf}
use Rattle.evp_plan.proofs.moves.all_moves.Given as goal

abbrev pub invariant-loop-steps : goal.invariant-loop-steps
invariant-loop-steps l = AreMovesOf l.from l.order l.table l.moves.items × (length l.moves.items ≡ l.steps-index)
