use Rattle.std.proofs.Common.{◌≡◌, take}
use Rattle.std.specs.List.{All}
use Rattle.evp_plan.specs.Quicks.{steps_in, IsFit}
use Rattle.evp_plan.proofs.fitting.all_quick.Given as goal

abbrev pub invariant-loop-step : goal.invariant-loop-step
invariant-loop-step l = (steps_in l.tests.items ≡ take l.step-index l.steps) × All IsFit l.tests.items
