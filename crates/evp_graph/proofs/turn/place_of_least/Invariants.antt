use Rattle.std.proofs.Common.{ℕ, ◌<◌, ◌≤◌, get_or, length}
use Rattle.evp_graph.proofs.turn.place_of_least.Given as goal

abbrev pub invariant-loop-place : goal.invariant-loop-place
invariant-loop-place l = (l.least < length l.numbers) × ((k : ℕ) → k < l.place → get_or l.numbers l.least 0 ≤ get_or l.numbers k 0)
