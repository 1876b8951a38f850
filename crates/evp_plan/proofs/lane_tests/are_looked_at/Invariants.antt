use Rattle.std.proofs.Common.{ℕ, List, take}
use Rattle.evp_plan.specs.Fills.{AreFilled}
use Rattle.evp_plan.specs.Lanes.{HaveFills}
use Rattle.evp_plan.proofs.lane_tests.are_looked_at.Given as goal

abbrev pub invariant-loop-fill : goal.invariant-loop-fill
invariant-loop-fill l = (at : ℕ) (bytes : List ℕ) → HaveFills at bytes l.windows → AreFilled at bytes (take l.fill-index l.fills)
