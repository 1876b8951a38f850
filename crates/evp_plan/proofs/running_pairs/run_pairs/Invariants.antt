use Rattle.std.proofs.Common.{◌≡◌, drop}
use Rattle.evp_plan.specs.Cells.{gathered_at}
use Rattle.evp_plan.specs.Pairs.{in_pairs}
use Rattle.evp_plan.proofs.running_pairs.run_pairs.Given as goal

abbrev pub invariant-loop-pair : goal.invariant-loop-pair
invariant-loop-pair l =
    gathered_at l.from l.at l.t (in_pairs (drop l.pair-index l.pairs)) l.out ≡ gathered_at l.from l.at l.t (in_pairs l.pairs) l.initial.out
