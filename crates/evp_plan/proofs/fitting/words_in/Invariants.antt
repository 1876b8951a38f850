use Rattle.std.proofs.Common.{◌≡◌, take}
use Rattle.evp_plan.specs.Quicks.{words_in}
use Rattle.evp_plan.proofs.fitting.words_in.Given as goal

abbrev pub invariant-loop-test : goal.invariant-loop-test
invariant-loop-test l = l.words.items ≡ words_in l.size (take l.test-index l.tests)
