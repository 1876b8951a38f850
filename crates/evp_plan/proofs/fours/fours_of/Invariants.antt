use Rattle.std.proofs.Common.{◌≡◌, ◌*◌, ◌≤◌, length, take}
use Rattle.evp_plan.specs.Fours.{in_fours}
use Rattle.evp_plan.proofs.fours.fours_of.Given as goal

abbrev pub invariant-loop-four : goal.invariant-loop-four
invariant-loop-four l =
    (length l.fours.items ≡ l.four)
    × ((l.four * 4 ≤ length l.gathers) × (in_fours l.fours.items ≡ take (l.four * 4) l.gathers))
