use Rattle.std.proofs.Common.{ℕ, ◌<◌}
use Rattle.evp_stone.specs.Starting.{IsAlong}
use Rattle.evp_stone.proofs.asking.number_along.Given as goal

abbrev pub invariant-loop-number : goal.invariant-loop-number
invariant-loop-number l = (k : ℕ) → k < l.number → IsAlong l.job l.source l.positions k → ⊥
