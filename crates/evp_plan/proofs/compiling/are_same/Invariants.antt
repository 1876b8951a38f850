use Rattle.std.proofs.Common.{◌≡◌, take}
use Rattle.evp_plan.proofs.compiling.are_same.Given as goal

abbrev pub invariant-loop-k : goal.invariant-loop-k
invariant-loop-k l = take l.k l.some ≡ take l.k l.others
