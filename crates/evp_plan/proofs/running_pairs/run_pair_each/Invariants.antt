use Rattle.std.proofs.Common.{◌≡◌, ◌+◌}
use Rattle.evp_plan.specs.Cells.{painted_each}
use Rattle.evp_plan.specs.Pairs.{pair_cells}
use Rattle.evp_plan.proofs.Each.{each_left}
use Rattle.evp_plan.proofs.running_pairs.run_pair_each.Given as goal

abbrev pub invariant-loop-k : goal.invariant-loop-k
invariant-loop-k l =
    each_left l.from l.at.first l.at.apart (l.to.first + l.pair.one.to) l.to.apart l.n (pair_cells l.pair) l.k l.out
    ≡ painted_each l.from l.at.first l.at.apart (l.to.first + l.pair.one.to) l.to.apart l.n (pair_cells l.pair) l.initial.out
