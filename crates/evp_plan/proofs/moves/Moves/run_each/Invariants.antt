use Rattle.std.proofs.Common.{◌≡◌}
use Rattle.evp_plan.specs.Cells.{painted_each}
use Rattle.evp_plan.proofs.Each.{each_left}
use Rattle.evp_plan.proofs.moves.Moves.run_each.Given as goal

abbrev pub invariant-loop-k : goal.invariant-loop-k
invariant-loop-k l =
    each_left l.from l.at.first l.at.apart l.to.first l.to.apart l.n l.self.cells l.k l.out
    ≡ painted_each l.from l.at.first l.at.apart l.to.first l.to.apart l.n l.self.cells l.initial.out
