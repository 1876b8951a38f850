use Rattle.std.proofs.Common.{◌≡◌, drop}
use Rattle.evp_plan.specs.Laid.{number_steps}
use Rattle.evp_plan.proofs.forms.have_no_number.Given as goal

abbrev pub invariant-loop-step : goal.invariant-loop-step
invariant-loop-step l = number_steps (drop l.step-index l.steps) ≡ number_steps l.steps
