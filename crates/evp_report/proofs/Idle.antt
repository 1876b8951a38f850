-- The accounts of the job of the tests that has no records.
use Rattle.std.proofs.Common.{◌≡◌, ℕ, zero, suc, List, [], ◌∷◌, Some, refl, sym, subst}
use Rattle.std.specs.Prelude.{slice_get}
use Rattle.std.specs.List.{AllZip}
use Rattle.evp_format.specs.Layout.{Layout}
use Rattle.evp_stone.specs.declared.account.Account.{Account}
use Rattle.evp_stone.specs.declared.account.RouteAccount.{RouteAccount}
use Rattle.evp_stone.specs.declared.account.RoundAccount.{RoundAccount}
use Rattle.evp_stone.specs.Accounts.{accounts_of}
use Rattle.evp_stone.specs.Tallied.{IsAccount, IsReceived, IsTallied, IsRouteAccount, routes_at}
use Rattle.evp_stone.specs.WholeAccounts.{AreAccounts}
use Rattle.evp_report.specs.Samples.{idle, idle_route}

module _ (layout : Layout) where
  nothing : (account : RoundAccount) → account.passed ≡ 0 → account.dropped ≡ 0 → account.refused.items ≡ [] → account.arrived.items ≡ []
      → account.held ≡ 0 → IsTallied (layout ∷ []) account
      (record { passed = 0; dropped = 0; refused = []; arrived = []; held = 0 })
  nothing account passed dropped refused arrived held = record {
    passed = passed;
    dropped = dropped;
    refused = refused;
    arrived = subst (λ l. AllZip (IsReceived (layout ∷ [])) l []) (sym arrived) tt;
    held = held;
  }

  told : (route : RouteAccount) (round : RoundAccount) → IsTallied (layout ∷ []) round
      (record { passed = 0; dropped = 0; refused = []; arrived = []; held = 0 }) → route.route ≡ 0 → route.rounds.items ≡ round ∷ []
      → IsRouteAccount (idle layout) 0 route
  told route round is same rounds = record {
    route = idle_route;
    same = same;
    there = refl;
    rounds = subst (λ l. AllZip (IsTallied (layout ∷ [])) l (accounts_of (idle layout) idle_route)) (sym rounds) (is, tt);
  }

  one : (first : Account) → first.stone ≡ 0 → IsAccount (idle layout) first → (k : ℕ) (a : Account)
      → slice_get (first ∷ []) k ≡ Some a → (a.stone ≡ k) × IsAccount (idle layout) a
  one first stone is zero a at =
      let same : first ≡ a = cc in
      subst (λ (b : Account). (b.stone ≡ 0) × IsAccount (idle layout) b) same (stone, is)
  one first stone is (suc k) a at = cc

  pub idle_accounts : (accounts : List Account) (account : Account) (route : RouteAccount) (round : RoundAccount)
      → accounts ≡ account ∷ [] → account.stone ≡ 0 → account.routes.items ≡ route ∷ [] → route.route ≡ 0
      → route.rounds.items ≡ round ∷ [] → round.passed ≡ 0 → round.dropped ≡ 0 → round.refused.items ≡ [] → round.arrived.items ≡ []
      → round.held ≡ 0 → AreAccounts (idle layout) accounts
  idle_accounts accounts account route round whole stone routes number rounds passed dropped refused arrived held =
      let is_route = told route round (nothing round passed dropped refused arrived held) number rounds in
      let zip : AllZip (λ (a : RouteAccount) (n : ℕ). IsRouteAccount (idle layout) n a) (route ∷ []) (routes_at (idle layout) 0) =
      (is_route, tt) in
      let listed = subst (λ n. AllZip (λ (a : RouteAccount) (n : ℕ). IsRouteAccount (idle layout) n a) account.routes.items
      (routes_at (idle layout) n)) (sym stone)
      (subst (λ l. AllZip (λ (a : RouteAccount) (n : ℕ). IsRouteAccount (idle layout) n a) l (routes_at (idle layout) 0))
      (sym routes) zip) in
      subst (λ l. AreAccounts (idle layout) l) (sym whole) (record {
        count = refl;
        each = one account stone (record { routes = listed });
      })
