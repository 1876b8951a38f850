use Rattle.std.proofs.Common.{ℕ, ◌<◌, length}
use Rattle.evp_graph.specs.Shape.{AreStones, targets_of}
use Rattle.evp_graph.proofs.places.first_lost.Given as goal

abbrev pub invariant-loop-stone : goal.invariant-loop-stone
invariant-loop-stone l = (j : ℕ) → j < l.stone → AreStones (length l.targets) (targets_of l.targets j)
