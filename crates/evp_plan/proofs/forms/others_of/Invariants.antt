use Rattle.std.proofs.Common.{◌≡◌, ◌++◌, drop}
use Rattle.evp_plan.specs.Laid.{block_steps}
use Rattle.evp_plan.proofs.forms.others_of.Given as goal

abbrev pub invariant-loop-step : goal.invariant-loop-step
invariant-loop-step l = l.others.items ++ block_steps (drop l.step-index l.steps) ≡ block_steps l.steps
