use Rattle.std.proofs.Common.{◌≡◌}
use Rattle.evp_core.specs.WorldShape.{HasRules}
use Rattle.evp_core_tests.proofs.tests.turns.answers.Given as goal

abbrev pub invariant-loop-actor : goal.invariant-loop-actor
invariant-loop-actor l = record {
  job : l.world.lists.job ≡ l.job;
  rules : HasRules l.world;
}
