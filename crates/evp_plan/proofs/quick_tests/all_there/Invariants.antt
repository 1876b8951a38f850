use Rattle.std.proofs.Common.{take}
use Rattle.std.specs.List.{All}
use Rattle.evp_plan.specs.Quicks.{IsThere}
use Rattle.evp_plan.proofs.quick_tests.all_there.Given as goal

abbrev pub invariant-loop-entry : goal.invariant-loop-entry
invariant-loop-entry l = All (IsThere l.at l.order l.bytes) (take l.entry-index l.words)
