use Rattle.std.proofs.Common.{◌≡◌, ℕ, ◌<◌, get_or, drop}
use Rattle.evp_plan.specs.Cells.{gathered_at}
use Rattle.evp_plan.specs.Fours.{in_fours}
use Rattle.evp_plan.proofs.running.run_in_fours.Given as goal

abbrev pub invariant-loop-four : goal.invariant-loop-four
invariant-loop-four l =
    (gathered_at l.from l.at l.t (in_fours (drop l.four-index l.fours)) l.out ≡ gathered_at l.from l.at l.t (in_fours l.fours) l.initial.out)
    × ((k : ℕ) → get_or l.out k 0 < 256)
