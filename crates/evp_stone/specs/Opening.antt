-- An actor before its first turn.
use Rattle.std.specs.Prelude.{◌≡◌, ℕ, ◌+◌, ◌<◌, List, [], length, slice_get, Some, None}
use Rattle.std.specs.List.{Contains, AllByRecursion}
use Rattle.evp_graph.specs.declared.route.Route.{Route}
use Rattle.evp_stone.specs.Actor.{Role, feeds, works, ActorShape}
use Rattle.evp_stone.specs.JobShape.{JobShape}
use Rattle.evp_stone.specs.Port.{Counting}
use Rattle.evp_stone.specs.Route.{last_stone}
use Rattle.evp_stone.specs.State.{RouteWork, GoesOn}
use Rattle.evp_stone.specs.Tallied.{routes_at}

-- the actors of a job are numbered: sources first, then stones
abbrev pub IsNumbered : JobShape → ℕ → Role → Type 0
IsNumbered job number (feeds work) = (number < length job.sources) × (work.source ≡ number)
IsNumbered job number (works work unended) =
    (work.stone < length job.stones) × (number ≡ length job.sources + work.stone)

-- a stone has done nothing on a route
pub record IsUntouched (work : RouteWork) : Type 0 where
  pub kept : work.kept ≡ []
  pub ended : work.ended ≡ []

-- it has given nothing, or nothing waits, none is in hand, and nothing was done on any route
abbrev pub IsOpening : Role → Type 0
IsOpening (feeds work) = work.given ≡ 0
IsOpening (works work unended) =
    (work.waiting ≡ []) × (work.hand ≡ None) × AllByRecursion IsUntouched work.routes

-- the route goes on from one that ends in this stone
pub record GoesOnFrom (job : JobShape) (stone : ℕ) (longer : Route) : Type 0 where
  pub number : ℕ
  pub route : Route
  pub there : slice_get job.routes number ≡ Some route
  pub last : last_stone route ≡ stone
  pub position : ℕ
  pub goes_on : GoesOn route position longer

-- the actor gives on the route
abbrev pub GivesOn : JobShape → Role → Route → Type 0
GivesOn job (feeds work) route = (route.source ≡ work.source) × (route.positions ≡ [])
GivesOn job (works work unended) route = GoesOnFrom job work.stone route

-- the numbers of the routes on which it takes
abbrev pub takes_on : JobShape → Role → List ℕ
takes_on job (feeds work) = []
takes_on job (works work unended) = routes_at job work.stone

-- its port takes on these routes and has taken nothing, and has given nothing on those on which the
-- actor gives
pub record IsFresh (job : JobShape) (role : Role) (taken given : Counting) : Type 0 where
  pub takes : (number : ℕ) → Contains (takes_on job role) number → taken number ≡ Some 0
  pub others : (number count : ℕ) → taken number ≡ Some count
      → Contains (takes_on job role) number
  pub gives : (number : ℕ) (route : Route) → slice_get job.routes number ≡ Some route
      → GivesOn job role route → given number ≡ Some 0

-- the opening actor of this number: it has its state with every fresh port, knows no pair, and has
-- built nothing
pub record Opens (job : JobShape) (number : ℕ) (actor : ActorShape) : Type 0 where
  pub numbered : IsNumbered job number actor.role
  pub opening : IsOpening actor.role
  pub known : actor.known ≡ []
  pub builds : actor.builds ≡ 0
  pub starved : actor.starved ≡ 0
