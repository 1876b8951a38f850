use Rattle.std.proofs.Common.{◌≡◌, ◌++◌, map}
use Rattle.std.specs.List.{range_with_len}
use Rattle.serde_json.specs.View.{view}
use Rattle.evp_gen.specs.Stones.{stone_value}
use Rattle.evp_gen.proofs.stones.push_row.Given as goal

abbrev pub invariant-loop-k : goal.invariant-loop-k
invariant-loop-k l =
    map view l.stones.items ≡ map view l.fn.stones.items
    ++ map (stone_value l.row) (range_with_len 0 l.k)
