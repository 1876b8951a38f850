-- Accounts of the rounds that a stone has ended so far.
use Rattle.std.specs.Prelude.{◌≡◌, ℕ, List, [], take, length, slice_get, Some}
use Rattle.std.specs.List.{AllZip}
use Rattle.evp_graph.specs.declared.route.Route.{Route}
use Rattle.evp_stone.specs.declared.account.RoundAccount.{RoundAccount}
use Rattle.evp_stone.specs.Accounts.{accounts_of}
use Rattle.evp_stone.specs.Actor.{Role, feeds, works}
use Rattle.evp_stone.specs.JobShape.{JobShape}
use Rattle.evp_stone.specs.State.{RouteWork}
use Rattle.evp_stone.specs.Tallied.{IsTallied}

-- these are the accounts of the first rounds of the route of this number
pub record AreEnded (job : JobShape) (number : ℕ) (accounts : List RoundAccount) : Type 0 where
  pub route : Route
  pub there : slice_get job.routes number ≡ Some route
  pub ended : AllZip (IsTallied job.formats) accounts
      (take (length accounts) (accounts_of job route))

-- what a stone's actor does on each of its routes; a source's does nothing there
abbrev pub route_works : Role → List RouteWork
route_works (feeds work) = []
route_works (works work unended) = work.routes

-- at this place of these stands the work on the route of this number, with these accounts
pub record EndsAt (works : List RouteWork) (place number : ℕ) (accounts : List RoundAccount) : Type 0 where
  pub work : RouteWork
  pub there : slice_get works place ≡ Some work
  pub route : work.route ≡ number
  pub ended : work.ended ≡ accounts
