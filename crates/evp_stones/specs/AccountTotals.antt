-- What the accounts come to that stones hand in.
use Rattle.std.specs.Prelude.{ℕ, ◌+◌, ◌≤◌, List, length, All}
use Rattle.std.specs.List.{sum_by}
use Rattle.evp_stone.specs.declared.account.Account.{Account}
use Rattle.evp_stone.specs.declared.account.RoundAccount.{RoundAccount}
use Rattle.evp_stone.specs.declared.account.RouteAccount.{RouteAccount}
use Rattle.evp_stones.specs.declared.bench.totals.Totals.{Totals}
use Rattle.evp_stones.specs.Totals.{last_by, sums}

abbrev pub no_totals : Totals
no_totals = record { passed = 0; dropped = 0; refused = 0; held = 0 }

abbrev pub both : Totals → Totals → Totals
both a b = record {
  passed = a.passed + b.passed;
  dropped = a.dropped + b.dropped;
  refused = a.refused + b.refused;
  held = a.held + b.held;
}

-- of a route after one more round, at whose end so many are kept
abbrev pub after_round : Totals → RoundAccount → Totals
after_round totals round = record {
  passed = totals.passed + round.passed;
  dropped = totals.dropped + round.dropped;
  refused = totals.refused + length round.refused.items;
  held = round.held;
}

abbrev pub rounds_totals : List RoundAccount → Totals
rounds_totals rounds = record {
  passed = sum_by (λ (a : RoundAccount). a.passed) rounds;
  dropped = sum_by (λ (a : RoundAccount). a.dropped) rounds;
  refused = sum_by (λ (a : RoundAccount). length a.refused.items) rounds;
  held = last_by (λ (a : RoundAccount). a.held) rounds;
}

abbrev pub route_of : RouteAccount → Totals
route_of route = rounds_totals route.rounds.items

abbrev pub stone_of : Account → Totals
stone_of account = sums route_of account.routes.items

-- none of the numbers is greater than this
pub record IsWithin (most : ℕ) (totals : Totals) : Type 0 where
  pub passed : totals.passed ≤ most
  pub dropped : totals.dropped ≤ most
  pub refused : totals.refused ≤ most
  pub held : totals.held ≤ most

-- an account of at most 64 rounds
abbrev pub IsShortRoute : RouteAccount → Type 0
IsShortRoute route = length route.rounds.items ≤ 64

-- one of at most 1,024 routes, each so
pub record IsShortStone (account : Account) : Type 0 where
  pub few : length account.routes.items ≤ 1024
  pub each : All IsShortRoute account.routes.items
