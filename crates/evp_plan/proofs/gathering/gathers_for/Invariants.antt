use Rattle.std.proofs.Common.{length}
use Rattle.evp_plan.specs.Cells.{AreWithin}
use Rattle.evp_plan.proofs.gathering.gathers_for.Given as goal

abbrev pub invariant-loop-block : goal.invariant-loop-block
invariant-loop-block l = AreWithin (length l.cells) l.reach l.gathers
