-- What a route of the graph is to the records that travel on it.
use Rattle.std.specs.Prelude.{ℕ, ◌+◌, List, [], ◌∷◌, map, take}
use Rattle.std.specs.List.{zip}
use Rattle.evp_graph.specs.declared.route.Route.{Route}
use Rattle.evp_stone.specs.Rounds.{Step}

-- the last of these stones
abbrev pub last_of : List ℕ → ℕ
last_of [] = 0
last_of (stone ∷ []) = stone
last_of (stone ∷ next ∷ stones) = last_of (next ∷ stones)

abbrev pub last_stone : Route → ℕ
last_stone route = last_of route.stones

-- the steps to its last stone
abbrev pub steps_of : Route → List Step
steps_of route = map (λ p. record { stone = p.0; position = p.1 })
    (zip route.stones route.positions)

-- the shorter route of so many steps
abbrev pub cut : ℕ → Route → Route
cut steps route = record {
  source = route.source;
  positions = take steps route.positions;
  stones = take (steps + 1) route.stones;
}
