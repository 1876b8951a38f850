-- Which actor gives on a route, and to which stone.
use Rattle.std.specs.Prelude.{◌≡◌, ℕ, ◌+◌, List, [], ◌∷◌, length, true, Option, Some, None}
use Rattle.std.specs.Prelude.{slice_get}
use Rattle.evp_graph.specs.declared.route.Route.{Route}
use Rattle.evp_queue.specs.Counts.{is_among}
use Rattle.evp_stone.specs.JobShape.{JobShape}
use Rattle.evp_stone.specs.Route.{last_stone}

-- the last but one of these stones
abbrev pub before_last : List ℕ → Option ℕ
before_last [] = None
before_last (stone ∷ []) = None
before_last (stone ∷ last ∷ []) = Some stone
before_last (stone ∷ next ∷ third ∷ stones) = before_last (next ∷ third ∷ stones)

-- the source, or the stone, which is numbered behind the sources
abbrev pub giver_from : ℕ → ℕ → Option ℕ → ℕ
giver_from sources source None = source
giver_from sources source (Some stone) = sources + stone

-- the number of the actor that gives on a route: that of its source, or of its last stone but one
abbrev pub giver_number : JobShape → Route → ℕ
giver_number job route = giver_from (length job.sources) route.source (before_last route.stones)

-- the route leads to the stone, and the actor gives on it where one is named
pub record IsWay (job : JobShape) (giver : Option ℕ) (target : ℕ) (route : Route) : Type 0 where
  pub giver_is : (number : ℕ) → giver ≡ Some number → giver_number job route ≡ number
  pub target_is : last_stone route ≡ target

-- these are the numbers of such routes
pub record AreWays (job : JobShape) (giver : Option ℕ) (target : ℕ) (numbers : List ℕ) : Type 0
  where
    pub each : (number : ℕ) → is_among number numbers ≡ true
        → (route : Route) × (slice_get job.routes number ≡ Some route)
        × IsWay job giver target route
    pub all : (number : ℕ) (route : Route) → slice_get job.routes number ≡ Some route
        → IsWay job giver target route → is_among number numbers ≡ true
