use Rattle.std.proofs.Common.{◌≡◌, ◌++◌, drop}
use Rattle.evp_plan.specs.Building.{steps_for}
use Rattle.evp_plan.proofs.matching.steps_of.Given as goal

abbrev pub invariant-loop-k : goal.invariant-loop-k
invariant-loop-k l = l.list.items ++ steps_for l.rows l.from l.all l.k (drop l.k l.all) ≡ steps_for l.rows l.from l.all 0 l.all
