-- The routes that are still to be listed.
use Rattle.std.specs.Prelude.{ℕ, List, [], ◌∷◌, ◌++◌, map}
use Rattle.std.specs.List.{enumerate_from}
use Rattle.evp_graph.specs.Ways.{Way}
use Rattle.evp_graph.specs.declared.route.Route.{Route}
use Rattle.evp_graph.specs.declared.listing.Ahead.{Ahead}

-- the route that goes on this way
abbrev pub continued : Route → Way → Route
continued route way =
    record {
      source = route.source;
      positions = route.positions ++ way.positions;
      stones = route.stones ++ way.stones;
    }

-- the route that goes on by one position to one stone
abbrev pub extension : Route → ℕ → ℕ → Route
extension route position stone =
    record {
      source = route.source;
      positions = route.positions ++ position ∷ [];
      stones = route.stones ++ stone ∷ [];
    }

-- the extensions of a route by the positions of a row
abbrev pub extensions : Route → List ℕ → List Ahead
extensions route row =
    map (λ e. record { route = extension route e.0 e.1; stone = e.1 }) (enumerate_from 0 row)

-- the route of a source and its stone alone
abbrev pub first_route : ℕ → ℕ → Route
first_route source stone = record { source = source; positions = []; stones = stone ∷ [] }

abbrev pub starts : List ℕ → List Ahead
starts sources =
    map (λ e. record { route = first_route e.0 e.1; stone = e.1 }) (enumerate_from 0 sources)
