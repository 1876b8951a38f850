use Rattle.std.proofs.Common.{length}
use Rattle.evp_plan.specs.Cells.{AreWithin}
use Rattle.evp_plan.proofs.gathering.add_gathers.Given as goal

abbrev pub invariant-loop-window : goal.invariant-loop-window
invariant-loop-window l = AreWithin (length l.cells) l.reach l.gathers
