-- What a stone's actor has on its routes before its first turn.
use Rattle.std.specs.Prelude.{◌≡◌, ℕ, List, [], length, slice_get, Some}
use Rattle.std.specs.List.{AllByRecursion}
use Rattle.evp_graph.specs.declared.route.Route.{Route}
use Rattle.evp_graph.specs.Shape.{targets_of}
use Rattle.evp_stone.specs.JobShape.{JobShape, graph_of}
use Rattle.evp_stone.specs.Route.{last_stone}
use Rattle.evp_stone.specs.State.{Outlet, RouteWork, GoesOn, numbers_of}
use Rattle.evp_stone.specs.Tallied.{routes_at}
use Rattle.evp_stone.specs.Turning.{nothing_done}

-- the route of this number goes from a source along these positions
pub record IsAlong (job : JobShape) (source : ℕ) (positions : List ℕ) (number : ℕ) : Type 0 where
  pub route : Route
  pub there : slice_get job.routes number ≡ Some route
  pub from : route.source ≡ source
  pub along : route.positions ≡ positions

-- how many target positions the last stone of a route has
abbrev pub width_of : JobShape → Route → ℕ
width_of job route = length (targets_of (graph_of job).targets (last_stone route))

-- the outlet is that of the route that goes on by this position, and nothing was lined up at it
pub record IsUnused (job : JobShape) (route : Route) (position : ℕ) (outlet : Outlet) : Type 0 where
  pub longer : Route
  pub there : slice_get job.routes outlet.route ≡ Some longer
  pub goes_on : GoesOn route position longer
  pub none : outlet.lined ≡ 0

-- there is such an outlet for each target position of the route's last stone
pub record AreUnused (job : JobShape) (route : Route) (outlets : List Outlet) : Type 0 where
  pub count : length outlets ≡ width_of job route
  pub each : (position : ℕ) (outlet : Outlet) → slice_get outlets position ≡ Some outlet
      → IsUnused job route position outlet

-- nothing was done on a route that ends in the stone
pub record Starts (job : JobShape) (stone : ℕ) (work : RouteWork) : Type 0 where
  pub route : Route
  pub there : slice_get job.routes work.route ≡ Some route
  pub last : last_stone route ≡ stone
  pub outlets : AreUnused job route work.outlets
  pub kept : work.kept ≡ []
  pub ended : work.ended ≡ []
  pub running : work.running ≡ nothing_done

-- these are the routes that end in the stone, in the order of their numbers, and nothing was done
-- on any
pub record AreStarting (job : JobShape) (stone : ℕ) (works : List RouteWork) : Type 0 where
  pub numbers : numbers_of works ≡ routes_at job stone
  pub start : AllByRecursion (Starts job stone) works
