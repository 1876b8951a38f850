use Rattle.std.proofs.Common.{ℕ, ◌<◌, get_or}
use Rattle.evp_graph.proofs.places.first_outside.Given as goal

abbrev pub invariant-loop-place : goal.invariant-loop-place
invariant-loop-place l = (j : ℕ) → j < l.place → get_or l.numbers j 0 < l.stones
