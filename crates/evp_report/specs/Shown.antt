-- What the account of a round shows: its records by the values that their bytes have.
use Rattle.std.specs.Prelude.{◌≡◌, ℕ, List, map, slice_get, Some, None}
use Rattle.std.specs.Arc.{arc_value}
use Rattle.std.specs.declared.sync.Arc.{Arc}
use Rattle.std.specs.declared.alloc.Global.{Global}
use Rattle.evp_format.specs.Layout.{Layout}
use Rattle.evp_graph.specs.declared.route.Route.{Route}
use Rattle.evp_record.specs.Owned.{HasValueIn}
use Rattle.evp_record.specs.OwnedBytes.{OwnedBytes}
use Rattle.evp_stone.specs.declared.account.RoundAccount.{RoundAccount}
use Rattle.evp_stone.specs.Accounts.{accounts_of, carried_of}
use Rattle.evp_stone.specs.Carried.{Carried}
use Rattle.evp_stone.specs.JobShape.{JobShape}
use Rattle.evp_stone.specs.Tallied.{IsTallied}
use Rattle.evp_stone.specs.Tally.{Tally}

-- an index and a record
abbrev pub Indexed : Type 0
Indexed = ℕ × Arc OwnedBytes Global

abbrev pub received : List Layout → Indexed → Carried
received formats item = carried_of formats item.0 (arc_value item.1)

-- the record has a value in its format
abbrev pub IsReadable : List Layout → Indexed → Type 0
IsReadable formats item = HasValueIn formats (arc_value item.1)

abbrev pub shown : List Layout → RoundAccount → Tally
shown formats account = record {
  passed = account.passed;
  dropped = account.dropped;
  refused = account.refused.items;
  arrived = map (received formats) account.arrived.items;
  held = account.held;
}

-- the account is that of a round of the route of this number
pub record IsRoundAccount (job : JobShape) (number round : ℕ) (account : RoundAccount) : Type 0
  where
    pub route : Route
    pub there : slice_get job.routes number ≡ Some route
    pub tally : Tally
    pub told : slice_get (accounts_of job route) round ≡ Some tally
    pub same : IsTallied job.formats account tally

-- the route of this number has no such round
pub record HasNoRound (job : JobShape) (number round : ℕ) : Type 0 where
  pub route : Route
  pub there : slice_get job.routes number ≡ Some route
  pub none : slice_get (accounts_of job route) round ≡ None
