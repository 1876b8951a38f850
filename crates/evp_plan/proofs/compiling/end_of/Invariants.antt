use Rattle.std.proofs.Common.{◌≡◌, ◌<◌, ◌^◌, drop, max}
use Rattle.evp_plan.specs.Cells.{end_of}
use Rattle.evp_plan.proofs.compiling.end_of.Given as goal

abbrev pub invariant-loop-step : goal.invariant-loop-step
invariant-loop-step l = (max l.end (end_of (drop l.step-index l.steps)) ≡ end_of l.steps) × (l.end < 2 ^ 33)
