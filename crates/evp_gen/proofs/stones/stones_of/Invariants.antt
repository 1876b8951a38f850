use Rattle.std.proofs.Common.{◌≡◌, ◌++◌, map, drop}
use Rattle.std.specs.List.{flat_map}
use Rattle.serde_json.specs.View.{view}
use Rattle.evp_gen.specs.Stones.{row_values}
use Rattle.evp_gen.proofs.stones.stones_of.Given as goal

-- the stones so far, followed by those of the rows from there on, are all
abbrev pub invariant-loop-row : goal.invariant-loop-row
invariant-loop-row l =
    map view l.stones.items ++ flat_map row_values (drop l.row-index l.rows)
    ≡ flat_map row_values l.rows
