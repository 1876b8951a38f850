use Rattle.std.proofs.Common.{◌≡◌, ℕ, ◌+◌, ◌<◌, get_or}
use Rattle.evp_plan.specs.Cells.{painted_each, gather_cells}
use Rattle.evp_plan.proofs.Each.{each_left}
use Rattle.evp_plan.proofs.running.run_gather_each.Given as goal

abbrev pub invariant-loop-k : goal.invariant-loop-k
invariant-loop-k l =
    (each_left l.from l.at.first l.at.apart (l.to.first + l.gather.to) l.to.apart l.n (gather_cells l.gather) l.k l.out
    ≡ painted_each l.from l.at.first l.at.apart (l.to.first + l.gather.to) l.to.apart l.n (gather_cells l.gather) l.fn.out)
    × ((k : ℕ) → get_or l.out k 0 < 256)
