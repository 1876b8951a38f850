use Rattle.std.proofs.Common.{◌≡◌, drop}
use Rattle.evp_plan.specs.Cells.{gathered_each}
use Rattle.evp_plan.specs.Pairs.{in_pairs}
use Rattle.evp_plan.proofs.running_pairs.run_pairs_each.Given as goal

abbrev pub invariant-loop-pair : goal.invariant-loop-pair
invariant-loop-pair l =
    gathered_each l.from l.at.first l.at.apart l.to.first l.to.apart l.n (in_pairs (drop l.pair-index l.pairs)) l.out
    ≡ gathered_each l.from l.at.first l.at.apart l.to.first l.to.apart l.n (in_pairs l.pairs) l.initial.out
