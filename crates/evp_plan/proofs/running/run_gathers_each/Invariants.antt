use Rattle.std.proofs.Common.{◌≡◌, drop}
use Rattle.evp_plan.specs.Cells.{gathered_each}
use Rattle.evp_plan.proofs.running.run_gathers_each.Given as goal

abbrev pub invariant-loop-gather : goal.invariant-loop-gather
invariant-loop-gather l =
    gathered_each l.from l.at.first l.at.apart l.to.first l.to.apart l.n (drop l.gather-index l.gathers) l.out
    ≡ gathered_each l.from l.at.first l.at.apart l.to.first l.to.apart l.n l.gathers l.initial.out
