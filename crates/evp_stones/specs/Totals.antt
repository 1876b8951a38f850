-- What the accounts of a job come to.
use Rattle.std.specs.Prelude.{ℕ, List, [], ◌∷◌, length}
use Rattle.std.specs.List.{sum_by}
use Rattle.evp_graph.specs.declared.route.Route.{Route}
use Rattle.evp_stone.specs.Accounts.{accounts_of}
use Rattle.evp_stone.specs.JobShape.{JobShape}
use Rattle.evp_stone.specs.Tally.{Tally}
use Rattle.evp_stones.specs.declared.bench.totals.Totals.{Totals}

-- the number that the last of these has
abbrev pub last_by : {X : Type 0} → (X → ℕ) → List X → ℕ
last_by count [] = 0
last_by count (x ∷ []) = count x
last_by count (x ∷ y ∷ later) = last_by count (y ∷ later)

-- of a route: the sums over its rounds, and how many records are kept at the end of the last one
abbrev pub route_totals : List Tally → Totals
route_totals rounds = record {
  passed = sum_by (λ (t : Tally). t.passed) rounds;
  dropped = sum_by (λ (t : Tally). t.dropped) rounds;
  refused = sum_by (λ (t : Tally). length t.refused) rounds;
  held = last_by (λ (t : Tally). t.held) rounds;
}

-- of several
abbrev pub sums : {X : Type 0} → (X → Totals) → List X → Totals
sums totals xs = record {
  passed = sum_by (λ x. (totals x).passed) xs;
  dropped = sum_by (λ x. (totals x).dropped) xs;
  refused = sum_by (λ x. (totals x).refused) xs;
  held = sum_by (λ x. (totals x).held) xs;
}

-- of a job: the sums over its routes
abbrev pub totals_of : JobShape → Totals
totals_of job = sums (λ (route : Route). route_totals (accounts_of job route)) job.routes
