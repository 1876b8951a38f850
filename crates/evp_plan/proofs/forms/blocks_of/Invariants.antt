use Rattle.std.proofs.Common.{take}
use Rattle.evp_plan.specs.Laid.{AreBlocksOf}
use Rattle.evp_plan.proofs.forms.blocks_of.Given as goal

abbrev pub invariant-loop-step : goal.invariant-loop-step
invariant-loop-step l = AreBlocksOf l.blocks.items (take l.step-index l.steps)
