use Rattle.std.proofs.Common.{◌≡◌, ◌≤◌, ◌++◌, length, drop}
use Rattle.evp_plan.proofs.fours.gathers_from.Given as goal

abbrev pub invariant-loop-k : goal.invariant-loop-k
invariant-loop-k l = (l.k ≤ length l.gathers) × (l.rest.items ++ drop l.k l.gathers ≡ drop l.first l.gathers)
