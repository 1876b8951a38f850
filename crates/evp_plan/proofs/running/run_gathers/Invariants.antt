use Rattle.std.proofs.Common.{◌≡◌, ℕ, ◌<◌, get_or, drop}
use Rattle.evp_plan.specs.Cells.{gathered_at}
use Rattle.evp_plan.proofs.running.run_gathers.Given as goal

abbrev pub invariant-loop-gather : goal.invariant-loop-gather
invariant-loop-gather l =
    (gathered_at l.from l.at l.t (drop l.gather-index l.gathers) l.out ≡ gathered_at l.from l.at l.t l.gathers l.initial.out)
    × ((k : ℕ) → get_or l.out k 0 < 256)
