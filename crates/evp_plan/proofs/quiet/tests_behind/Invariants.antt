use Rattle.std.proofs.Common.{◌≡◌, ◌++◌, drop}
use Rattle.evp_plan.specs.Quiet.{tests_behind}
use Rattle.evp_plan.proofs.quiet.tests_behind.Given as goal

abbrev pub invariant-loop-step : goal.invariant-loop-step
invariant-loop-step l = l.tests.items ++ tests_behind l.earlier (drop l.step-index l.steps) ≡ tests_behind l.earlier l.steps
