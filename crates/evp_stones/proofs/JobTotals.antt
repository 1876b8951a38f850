-- What a job's accounts come to, and how many there can be.
use Rattle.std.proofs.Common.{◌≡◌, ℕ, suc, ◌+◌, ◌≤◌, ◌==◌, Bool, true, false, List, []}
use Rattle.std.proofs.Common.{◌∷◌, ◌++◌, length, get_or, ap, arith}
use Rattle.std.proofs.lemmas.List.{length-map}
use Rattle.std.proofs.lemmas.List.Elements.{All-nil, All-cons}
use Rattle.std.proofs.lemmas.Option.{slice_get-get_or}
use Rattle.std.proofs.lemmas.Slice.Zip.{AllZip-long}
use Rattle.std.specs.List.{All, AllZip, sum_by}
use Rattle.std.specs.Prelude.{if◌then◌else◌}
use Rattle.evp_graph.specs.declared.route.Route.{Route}
use Rattle.evp_queue.specs.Counts.{is_among}
use Rattle.evp_stone.specs.Accounts.{act_of, freezes_of, arrivals, rounds_of, accounts_of}
use Rattle.evp_stone.specs.Carried.{Carried}
use Rattle.evp_stone.specs.declared.account.Account.{Account}
use Rattle.evp_stone.specs.declared.account.RouteAccount.{RouteAccount}
use Rattle.evp_stone.specs.declared.round.Round.{Round}
use Rattle.evp_stone.specs.Job.{IsJob}
use Rattle.evp_stone.specs.JobShape.{JobShape}
use Rattle.evp_stone.specs.Route.{last_stone}
use Rattle.evp_stone.specs.Rounds.{round_of, rounds_from}
use Rattle.evp_stone.specs.Tallied.{IsAccount, IsRouteAccount, ending_from, routes_at}
use Rattle.evp_stone.specs.Tally.{account_of}
use Rattle.evp_stone.specs.WholeAccounts.{AreAccounts}
use Rattle.evp_stone.proofs.LastStones.{last_stone_below}
use Rattle.evp_stones.specs.AccountTotals.{IsShortRoute, IsShortStone, route_of, stone_of}
use Rattle.evp_stones.specs.declared.bench.totals.Totals.{Totals}
use Rattle.evp_stones.specs.Totals.{route_totals, sums, totals_of}
use Rattle.evp_stones.proofs.CountedOnce.{counted_once}
use Rattle.evp_stones.proofs.TotalSums.{four, rounds_are}

-- ---- how many

few_rounds : (kept : List Carried) (frozen : List Bool) (arrivals : List (List Carried))
    → length (rounds_from kept frozen arrivals) ≤ length frozen
few_rounds kept [] arrivals = omega arith
few_rounds kept (b ∷ later) [] = omega arith
few_rounds kept (b ∷ later) (new ∷ arrivals) =
    let more = few_rounds (round_of b (kept ++ new)).held later arrivals in
    omega (arith, more)

few_by : (b : Bool) (number most : ℕ) (numbers : List ℕ) → length numbers ≤ most
    → length (if b then number ∷ numbers else numbers) ≤ suc most
few_by true number most numbers few = omega (arith, few)
few_by false number most numbers few = omega (arith, few)

few_ending : (stone number : ℕ) (routes : List Route) → length (ending_from stone number routes) ≤ length routes
few_ending stone number [] = omega arith
few_ending stone number (route ∷ routes) =
    few_by (last_stone route == stone) number (length routes) (ending_from stone (number + 1) routes) (few_ending stone (number + 1) routes)

-- a fact of each that is zipped
each_zipped : {A B : Type 0} (R : A → B → Type 0) (P : A → Type 0) → ((a : A) (b : B) → R a b → P a) → (xs : List A) (ys : List B)
    → AllZip R xs ys → All P xs
each_zipped R P shows [] ys zip = All-nil P
each_zipped R P shows (x ∷ xs) [] zip = absurd zip
each_zipped R P shows (x ∷ xs) (y ∷ ys) zip = All-cons P x xs (shows x y zip.0) (each_zipped R P shows xs ys zip.1)

module _ (job : JobShape) (is_job : IsJob job) where
  short_route : (number : ℕ) (account : RouteAccount) → IsRouteAccount job number account → IsShortRoute account
  short_route number account is =
      let same = AllZip-long _ account.rounds.items (accounts_of job is.route) is.rounds in
      let told = length-map (rounds_of job is.route) (account_of (act_of job) (last_stone is.route)) in
      let few = few_rounds [] (freezes_of job (last_stone is.route)) (arrivals job is.route) in
      let frozen = length-map job.rounds (λ (round : Round). is_among (last_stone is.route) round.frozen) in
      let most = is_job.limits.rounds.1 in
      omega (arith, same, told, few, frozen, most)

  short_stone : (account : Account) → IsAccount job account → IsShortStone account
  short_stone account is = record {
    few = (
        let same = AllZip-long _ account.routes.items (routes_at job account.stone) is.routes in
        let ending = few_ending account.stone 0 job.routes in
        let most = is_job.limits.routes in
        omega (arith, same, ending, most)
        );
    each = each_zipped (λ (a : RouteAccount) (n : ℕ). IsRouteAccount job n a) IsShortRoute (λ a n route. short_route n a route)
        account.routes.items (routes_at job account.stone) is.routes;
  }

  module _ (accounts : List Account) (are : AreAccounts job accounts) where
    pub few_stones : length accounts ≤ 256
    few_stones = let most = is_job.limits.stones.1 in let count = are.count in omega (arith, most, count)

    pub short_stones : All IsShortStone accounts
    short_stones k d below = short_stone (get_or accounts k d) (are.each k (get_or accounts k d) (slice_get-get_or accounts k d below)).1

    -- ---- the sums

    count_is : (of_route : Totals → ℕ) → ((number : ℕ) (account : RouteAccount) (is : IsRouteAccount job number account)
        → of_route (route_of account) ≡ of_route (route_totals (accounts_of job is.route)))
    count_is of_route number account is = ap of_route (rounds_are job.formats account.rounds.items (accounts_of job is.route) is.rounds)

    one_count : (of_route : Totals → ℕ)
        → sum_by (λ (account : Account). sum_by (λ (a : RouteAccount). of_route (route_of a)) account.routes.items) accounts
        ≡ sum_by (λ (route : Route). of_route (route_totals (accounts_of job route))) job.routes
    one_count of_route =
        counted_once (λ (route : Route). of_route (route_totals (accounts_of job route))) job (λ (a : RouteAccount). of_route (route_of a))
        (count_is of_route) accounts are.each
        (λ i route there. let below = last_stone_below job is_job i route there in let count = are.count in omega (arith, below, count))

    pub totals_are : sums stone_of accounts ≡ totals_of job
    totals_are = four (one_count (λ t. t.passed)) (one_count (λ t. t.dropped)) (one_count (λ t. t.refused)) (one_count (λ t. t.held))
