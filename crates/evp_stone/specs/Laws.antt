-- The law of rounds, as a statement.
use Rattle.std.specs.Prelude.{◌≡◌, ℕ, ◌≤◌, List, [], ◌++◌, length, slice_get, Some}
use Rattle.std.specs.List.{flat_map}
use Rattle.evp_graph.specs.declared.route.Route.{Route}
use Rattle.evp_stone.specs.Accounts.{rounds_of, through_of}
use Rattle.evp_stone.specs.Carried.{Carried}
use Rattle.evp_stone.specs.JobShape.{JobShape}
use Rattle.evp_stone.specs.Route.{cut}
use Rattle.evp_stone.specs.Rounds.{Worked, held_after}

-- all that the last stone of a route acts on, in the order of the rounds
abbrev pub done_of : JobShape → Route → List Carried
done_of job route = flat_map (λ (round : Worked). round.done) (rounds_of job route)

-- what the last stone of a route keeps at the end of the last round
abbrev pub held_of : JobShape → Route → List Carried
held_of job route = held_after [] (rounds_of job route)

-- what the last stone of a route acts on begins what comes through without rounds, and is all of
-- it where, after the last round, neither that stone keeps anything on the route nor one on the
-- way to it
pub record BeginsTheWhole (job : JobShape) (route : Route) : Type 0 where
  pub others : List Carried
  pub begins : done_of job route ++ others ≡ through_of job route
  pub whole : ((steps : ℕ) → steps ≤ length route.positions → held_of job (cut steps route) ≡ [])
      → done_of job route ≡ through_of job route

-- this holds of each route of the job
abbrev pub RoundsBeginTheWhole : JobShape → Type 0
RoundsBeginTheWhole job =
    (number : ℕ) (route : Route) → slice_get job.routes number ≡ Some route
    → BeginsTheWhole job route
