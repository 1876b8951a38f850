use Rattle.std.proofs.Common.{◌≡◌, ℕ, ◌+◌, ◌*◌, ◌<◌, get_or}
use Rattle.evp_plan.specs.Cells.{painted_each, gather_cells}
use Rattle.evp_plan.proofs.Each.{each_left}
use Rattle.evp_plan.proofs.running.run_fours.Given as goal

abbrev pub invariant-loop-four : goal.invariant-loop-four
invariant-loop-four l =
    (each_left l.from l.at.first l.at.apart (l.to.first + l.gather.to) l.to.apart (l.fours * 4) (gather_cells l.gather) (l.four * 4) l.out
    ≡ painted_each l.from l.at.first l.at.apart (l.to.first + l.gather.to) l.to.apart (l.fours * 4) (gather_cells l.gather) l.initial.out)
    × ((k : ℕ) → get_or l.out k 0 < 256)
