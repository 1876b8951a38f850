use Rattle.std.proofs.Common.{◌≡◌, map, take}
use Rattle.evp_plan.specs.Program.{programs}
use Rattle.evp_plan.specs.Quiet.{tests_of}
use Rattle.evp_plan.proofs.quiet.tests_in.Given as goal

abbrev pub invariant-loop-steps : goal.invariant-loop-steps
invariant-loop-steps l = l.tests.items ≡ map (tests_of (programs l.table)) (take l.steps-index l.table)
