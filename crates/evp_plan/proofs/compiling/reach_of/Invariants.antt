use Rattle.std.proofs.Common.{◌≡◌, ◌<◌, ◌^◌, drop, max}
use Rattle.evp_plan.specs.Cells.{reach_of}
use Rattle.evp_plan.proofs.compiling.reach_of.Given as goal

abbrev pub invariant-loop-step : goal.invariant-loop-step
invariant-loop-step l = (max l.reach (reach_of (drop l.step-index l.steps)) ≡ reach_of l.steps) × (l.reach < 2 ^ 33)
