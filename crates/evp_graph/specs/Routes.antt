-- Routes: what one is, in which order they stand, and the list of all.
use Rattle.std.specs.Prelude.{ℕ, ◌≡◌, ◌≢◌, ◌<◌, ◌⊎◌, ◌↔◌, Some, List, [], ◌∷◌, ◌++◌, length, map}
use Rattle.std.specs.Prelude.{flat_map, AllPairs, Contains, slice_get}
use Rattle.std.specs.List.{enumerate_from}
use Rattle.evp_graph.specs.Shape.{Shape, targets_of}
use Rattle.evp_graph.specs.Ways.{Way, ways}
use Rattle.evp_graph.specs.declared.route.Route.{Route}

-- from stone a these positions lead to these stones, one after another
abbrev pub Steps : List (List ℕ) → ℕ → List ℕ → List ℕ → Type 0
Steps targets a [] [] = Unit {0}
Steps targets a (position ∷ positions) (b ∷ stones) =
    (slice_get (targets_of targets a) position ≡ Some b) × Steps targets b positions stones
Steps targets a [] (b ∷ stones) = ⊥
Steps targets a (position ∷ positions) [] = ⊥

-- the source's stone, and behind it the stones to which the positions lead
abbrev pub Visits : Shape → ℕ → List ℕ → List ℕ → Type 0
Visits graph source positions [] = ⊥
Visits graph source positions (first ∷ others) =
    (slice_get graph.sources source ≡ Some first) × Steps graph.targets first positions others

-- a source followed by stones, each reached by one target position of the one before
abbrev pub IsRoute : Shape → Route → Type 0
IsRoute graph route = Visits graph route.source route.positions route.stones

-- by the first number that differs, a list before those that go on from it
abbrev pub Precedes : List ℕ → List ℕ → Type 0
Precedes [] [] = ⊥
Precedes [] (y ∷ ys) = Unit {0}
Precedes (x ∷ xs) [] = ⊥
Precedes (x ∷ xs) (y ∷ ys) = (x < y) ⊎ ((x ≡ y) × Precedes xs ys)

-- the order of routes: by source, then depth first by position, a route before its extensions
abbrev pub ComesBefore : Route → Route → Type 0
ComesBefore r s = Precedes (r.source ∷ r.positions) (s.source ∷ s.positions)

-- the longer route goes on from the other by one position or more
abbrev pub Extends : Route → Route → Type 0
Extends longer route =
    (longer.source ≡ route.source) × (position : ℕ) × (more : List ℕ) ×
    (longer.positions ≡ route.positions ++ position ∷ more)

-- the list has each route once, in their order, and none behind one that extends it
pub record ListsRoutes (graph : Shape) (list : List Route) : Type 0 where
  pub each : (route : Route) → IsRoute graph route ↔ Contains list route
  pub once : AllPairs ◌≢◌ list
  pub ordered : AllPairs ComesBefore list
  pub before_extensions : AllPairs (λ r s. Extends r s → ⊥) list

-- the route of a source and its stone that goes this way on
abbrev pub route_along : ℕ → ℕ → Way → Route
route_along source stone way = record {
  source = source;
  positions = way.positions;
  stones = stone ∷ way.stones;
}

-- the routes by source, each source's ways depth first.
-- Without a cycle each way has fewer steps than there are stones, so the bound cuts none
abbrev pub routes_of : Shape → List Route
routes_of graph =
    flat_map (λ e. map (route_along e.0 e.1) (ways graph.targets (length graph.targets) e.1))
    (enumerate_from 0 graph.sources)
