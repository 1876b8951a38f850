-- The flow of a route: all that is ever sent on it.
use Rattle.std.specs.Prelude.{ℕ, ◌+◌, List, [], ◌∷◌, ◌++◌, map}
use Rattle.evp_stone.specs.Carried.{Carried}

-- a record, or the end of a round
pub data Part : Type 0 where
  item : Carried → Part
  mark : ℕ → Part

-- for each round from this one on its records in order, then its end
abbrev pub flow_from : ℕ → List (List Carried) → List Part
flow_from round [] = []
flow_from round (new ∷ arrivals) = map item new ++ mark round ∷ flow_from (round + 1) arrivals
