-- Accounts that are those of a job's rounds.
use Rattle.std.specs.Prelude.{◌≡◌, ℕ, ◌+◌, ◌==◌, if◌then◌else◌, List, [], ◌∷◌, slice_get, Some}
use Rattle.std.specs.List.{AllZip}
use Rattle.std.specs.Arc.{arc_value}
use Rattle.std.specs.declared.sync.Arc.{Arc}
use Rattle.std.specs.declared.alloc.Global.{Global}
use Rattle.evp_format.specs.Layout.{Layout}
use Rattle.evp_graph.specs.declared.route.Route.{Route}
use Rattle.evp_record.specs.OwnedBytes.{OwnedBytes}
use Rattle.evp_stone.specs.declared.account.RoundAccount.{RoundAccount}
use Rattle.evp_stone.specs.declared.account.RouteAccount.{RouteAccount}
use Rattle.evp_stone.specs.declared.account.Account.{Account}
use Rattle.evp_stone.specs.Accounts.{accounts_of}
use Rattle.evp_stone.specs.Carried.{Carried}
use Rattle.evp_stone.specs.Entries.{IsThat}
use Rattle.evp_stone.specs.JobShape.{JobShape}
use Rattle.evp_stone.specs.Route.{last_stone}
use Rattle.evp_stone.specs.Tally.{Tally}

-- an index and a record stand for one on its way
abbrev pub IsReceived : List Layout → ℕ × Arc OwnedBytes Global → Carried → Type 0
IsReceived formats received c = (received.0 ≡ c.index) × IsThat formats (arc_value received.1) c

-- the account of a round is this tally
pub record IsTallied (formats : List Layout) (account : RoundAccount) (tally : Tally) : Type 0 where
  pub passed : account.passed ≡ tally.passed
  pub dropped : account.dropped ≡ tally.dropped
  pub refused : account.refused.items ≡ tally.refused
  pub arrived : AllZip (IsReceived formats) account.arrived.items tally.arrived
  pub held : account.held ≡ tally.held

-- the account of a route is that of the job's rounds
pub record IsRouteAccount (job : JobShape) (number : ℕ) (account : RouteAccount) : Type 0 where
  pub route : Route
  pub same : account.route ≡ number
  pub there : slice_get job.routes number ≡ Some route
  pub rounds : AllZip (IsTallied job.formats) account.rounds.items (accounts_of job route)

-- the numbers of those routes that end in a stone, where the first of these has this number
abbrev pub ending_from : ℕ → ℕ → List Route → List ℕ
ending_from stone number [] = []
ending_from stone number (route ∷ routes) =
    let more = ending_from stone (number + 1) routes in
    if last_stone route == stone then number ∷ more else more

-- the numbers of the routes that end in a stone
abbrev pub routes_at : JobShape → ℕ → List ℕ
routes_at job stone = ending_from stone 0 job.routes

-- the account of a stone is that of the job's rounds
pub record IsAccount (job : JobShape) (account : Account) : Type 0 where
  pub routes : AllZip (λ account number. IsRouteAccount job number account) account.routes.items
      (routes_at job account.stone)
