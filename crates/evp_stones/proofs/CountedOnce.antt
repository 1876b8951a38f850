-- Sums over the stones' accounts are sums over the job's routes: each route ends in one stone.
use Rattle.std.proofs.Common.{◌≡◌, ◌⊎◌, inl, inr, ℕ, zero, suc, ◌+◌, ◌<◌, ◌≤◌, ◌==◌, Bool, true, false}
use Rattle.std.proofs.Common.{List, [], ◌∷◌, length, Option, Some, None, refl, sym, ap, ◌∙◌, arith}
use Rattle.std.proofs.lemmas.Bool.{cases_lt}
use Rattle.std.proofs.lemmas.Bool.Decides.{nat_tests}
use Rattle.std.proofs.lemmas.List.Sums.{sum_by-cons}
use Rattle.std.specs.List.{slice_get, sum_by}
use Rattle.std.specs.Prelude.{if◌then◌else◌}
use Rattle.evp_graph.specs.declared.route.Route.{Route}
use Rattle.evp_stone.specs.declared.account.Account.{Account}
use Rattle.evp_stone.specs.declared.account.RouteAccount.{RouteAccount}
use Rattle.evp_stone.specs.JobShape.{JobShape}
use Rattle.evp_stone.specs.Route.{last_stone}
use Rattle.evp_stone.specs.Tallied.{IsAccount, IsRouteAccount, ending_from}
use Rattle.evp_stones.proofs.TotalSums.{zip_sum}

module _ (h : Route → ℕ) where
  -- the part of a stone: of a route that ends in it
  abbrev part : ℕ → Route → ℕ
  part stone route = if last_stone route == stone then h route else 0

  part_yes : (stone : ℕ) (route : Route) → last_stone route ≡ stone → part stone route ≡ h route
  part_yes stone route ends = let test : (last_stone route == stone) ≡ true = grind (arith, nat_tests, ends) in rw test refl

  part_below : (stone : ℕ) (route : Route) → last_stone route < stone → part stone route ≡ 0
  part_below stone route less = let test : (last_stone route == stone) ≡ false = grind (arith, nat_tests, less) in rw test refl

  part_above : (stone : ℕ) (route : Route) → stone < last_stone route → part stone route ≡ 0
  part_above stone route less = let test : (last_stone route == stone) ≡ false = grind (arith, nat_tests, less) in rw test refl

  -- of so many stones from this one on
  abbrev parts : ℕ → ℕ → Route → ℕ
  parts stone zero route = 0
  parts stone (suc n) route = part stone route + parts (suc stone) n route

  none : (stone n : ℕ) (route : Route) → last_stone route < stone → parts stone n route ≡ 0
  none stone zero route less = refl
  none stone (suc n) route less =
      let here = part_below stone route less in
      let later = none (suc stone) n route (omega (arith, less)) in
      omega (arith, here, later)

  once_by : (stone n : ℕ) (route : Route) → stone ≤ last_stone route → (stone < last_stone route) ⊎ (last_stone route ≤ stone)
      → (stone < last_stone route → parts (suc stone) n route ≡ h route) → parts stone (suc n) route ≡ h route
  once_by stone n route from (inl less) next =
      let here = part_above stone route less in
      let later = next less in
      omega (arith, here, later)
  once_by stone n route from (inr most) next =
      let here = part_yes stone route (omega (arith, from, most)) in
      let later = none (suc stone) n route (omega (arith, most)) in
      omega (arith, here, later)

  once : (stone n : ℕ) (route : Route) → stone ≤ last_stone route → last_stone route < stone + n → parts stone n route ≡ h route
  once stone zero route from to = absurd (omega (arith, from, to))
  once stone (suc n) route from to = once_by stone n route from (cases_lt stone (last_stone route))
      (λ less. once (suc stone) n route (omega (arith, less)) (omega (arith, to)))

  -- the parts of all routes
  abbrev all_parts : ℕ → ℕ → List Route → ℕ
  all_parts stone zero routes = 0
  all_parts stone (suc n) routes = sum_by (part stone) routes + all_parts (suc stone) n routes

  parts_none : (stone n : ℕ) → all_parts stone n [] ≡ 0
  parts_none stone zero = refl
  parts_none stone (suc n) = let later = parts_none (suc stone) n in omega (arith, later)

  parts_more : (stone n : ℕ) (route : Route) (routes : List Route)
      → all_parts stone n (route ∷ routes) ≡ parts stone n route + all_parts stone n routes
  parts_more stone zero route routes = refl
  parts_more stone (suc n) route routes =
      let here = sum_by-cons (part stone) route routes in
      let later = parts_more (suc stone) n route routes in
      omega (arith, here, later)

  -- each route ends in one of the stones
  each_once : (n : ℕ) (routes : List Route) → ((i : ℕ) (route : Route) → slice_get routes i ≡ Some route → last_stone route < n)
      → all_parts 0 n routes ≡ sum_by h routes
  each_once n [] below = parts_none 0 n
  each_once n (route ∷ routes) below =
      let here = once 0 n route (omega arith) (let least = below 0 route refl in omega (arith, least)) in
      let later = each_once n routes (λ i other there. below (suc i) other there) in
      let more = parts_more 0 n route routes in
      let all = sum_by-cons h route routes in
      omega (arith, here, later, more, all)

  -- ---- by the routes' numbers

  abbrev at_number : Option Route → ℕ
  at_number None = 0
  at_number (Some route) = h route

  ended_by : (whole : List Route) (k : ℕ) (route : Route) (numbers : List ℕ) (rest : ℕ) (b : Bool) → slice_get whole k ≡ Some route
      → sum_by (λ n. at_number (slice_get whole n)) numbers ≡ rest
      → sum_by (λ n. at_number (slice_get whole n)) (if b then k ∷ numbers else numbers) ≡ (if b then h route else 0) + rest
  ended_by whole k route numbers rest true there same =
      let here = ap at_number there in
      let more = sum_by-cons (λ n. at_number (slice_get whole n)) k numbers in
      omega (arith, here, more, same)
  ended_by whole k route numbers rest false there same = omega (arith, same)

  ended : (whole : List Route) (stone k : ℕ) (rest : List Route) → ((i : ℕ) → slice_get whole (k + i) ≡ slice_get rest i)
      → sum_by (λ n. at_number (slice_get whole n)) (ending_from stone k rest) ≡ sum_by (part stone) rest
  ended whole stone k [] there = refl
  ended whole stone k (route ∷ later) there =
      let start : k ≡ k + 0 = omega arith in
      let rest = ended whole stone (k + 1) later
      (λ i. let same : k + 1 + i ≡ k + suc i = omega arith in ap (slice_get whole) same ∙ there (suc i)) in
      ended_by whole k route (ending_from stone (k + 1) later) (sum_by (part stone) later) (last_stone route == stone)
      (ap (slice_get whole) start ∙ there 0) rest
      ∙ sym (sum_by-cons (part stone) route later)

  -- ---- by the stones' accounts

  module _ (job : JobShape) (g : RouteAccount → ℕ)
      (same : (number : ℕ) (account : RouteAccount) (is : IsRouteAccount job number account) → g account ≡ h is.route) where
    of_account : (stone : ℕ) (account : Account) → account.stone ≡ stone → IsAccount job account
        → sum_by g account.routes.items ≡ sum_by (part stone) job.routes
    of_account stone account numbered is =
        zip_sum (λ (a : RouteAccount) (n : ℕ). IsRouteAccount job n a) g (λ n. at_number (slice_get job.routes n))
        (λ a n route. same n a route ∙ sym (ap at_number route.there)) account.routes.items
        (ending_from account.stone 0 job.routes) is.routes
        ∙ ended job.routes account.stone 0 job.routes
        (λ i. let zero_first : 0 + i ≡ i = omega arith in ap (slice_get job.routes) zero_first)
        ∙ ap (λ s. sum_by (part s) job.routes) numbered

    of_accounts : (stone : ℕ) (accounts : List Account)
        → ((i : ℕ) (account : Account) → slice_get accounts i ≡ Some account → (account.stone ≡ stone + i) × IsAccount job account)
        → sum_by (λ (account : Account). sum_by g account.routes.items) accounts ≡ all_parts stone (length accounts) job.routes
    of_accounts stone [] each = refl
    of_accounts stone (account ∷ accounts) each =
        let first = each 0 account refl in
        let here = of_account stone account (omega (arith, first.0)) first.1 in
        let later = of_accounts (suc stone) accounts
        (λ i other there. let next = each (suc i) other there in (omega (arith, next.0), next.1)) in
        let more = sum_by-cons (λ (a : Account). sum_by g a.routes.items) account accounts in
        omega (arith, here, later, more)

    pub counted_once : (accounts : List Account)
        → ((i : ℕ) (account : Account) → slice_get accounts i ≡ Some account → (account.stone ≡ i) × IsAccount job account)
        → ((i : ℕ) (route : Route) → slice_get job.routes i ≡ Some route → last_stone route < length accounts)
        → sum_by (λ (account : Account). sum_by g account.routes.items) accounts ≡ sum_by h job.routes
    counted_once accounts each below =
        of_accounts 0 accounts (λ i account there. let is = each i account there in (omega (arith, is.0), is.1))
        ∙ each_once (length accounts) job.routes below
