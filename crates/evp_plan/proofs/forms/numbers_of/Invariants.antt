use Rattle.std.proofs.Common.{◌≡◌, ◌++◌, drop}
use Rattle.evp_plan.specs.Laid.{number_steps}
use Rattle.evp_plan.proofs.forms.numbers_of.Given as goal

abbrev pub invariant-loop-step : goal.invariant-loop-step
invariant-loop-step l = l.numbers.items ++ number_steps (drop l.step-index l.steps) ≡ number_steps l.steps
