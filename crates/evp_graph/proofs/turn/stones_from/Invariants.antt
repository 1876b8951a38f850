use Rattle.std.proofs.Common.{◌≡◌, ◌++◌, vec_len}
use Rattle.evp_graph.specs.Search.{stones_back}
use Rattle.evp_graph.proofs.Visits.{IsOn}
use Rattle.evp_graph.proofs.turn.stones_from.Given as goal

abbrev pub invariant-loop-stone : goal.invariant-loop-stone
invariant-loop-stone l =
    (stones_back l.fn.path.items l.fn.here ≡ l.stones.items ++ stones_back l.path.items l.stone) × IsOn l.first
    (stones_back l.path.items l.stone)

abbrev pub decreases-loop-stone : goal.decreases-loop-stone
decreases-loop-stone l = vec_len l.path
