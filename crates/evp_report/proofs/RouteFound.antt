-- Where the account of a route stands among those of its last stone.
use Rattle.std.proofs.Common.{◌≡◌, ℕ, zero, suc, ◌-◌, ◌<◌, ◌≤◌, ◌==◌, true, List, [], ◌∷◌, length, get_or}
use Rattle.std.proofs.Common.{Some, None, Result, Ok, Err, refl, sym, ap, ◌∙◌, subst, arith}
use Rattle.std.specs.List.{AllZip, slice_get}
use Rattle.std.specs.List.Sorted.{IsSearchInRange, IsBinarySearchResult}
use Rattle.std.specs.Ordering.{nat_cmp}
use Rattle.std.proofs.lemmas.Bool.Decides.{nat_tests}
use Rattle.std.proofs.lemmas.Option.{slice_get-get_or, slice_get_read}
use Rattle.std.proofs.lemmas.Slice.Zip.{AllZip-long}
use Rattle.evp_graph.specs.declared.route.Route.{Route}
use Rattle.evp_stone.specs.declared.account.Account.{Account}
use Rattle.evp_stone.specs.declared.account.RouteAccount.{RouteAccount}
use Rattle.evp_stone.specs.JobShape.{JobShape}
use Rattle.evp_stone.specs.Route.{last_of, last_stone}
use Rattle.evp_stone.specs.Tallied.{IsRouteAccount, routes_at}
use Rattle.evp_stone.specs.WholeAccounts.{AreAccounts}
use Rattle.evp_report.proofs.AmongEnding.{ending-in}
use Rattle.evp_stone.proofs.Found.{ending-rises, found}

zip_at : {A B : Type 0} (R : A → B → Type 0) (xs : List A) (ys : List B) (i : ℕ) (d : A) (e : B) → AllZip R xs ys → i < length xs
    → R (get_or xs i d) (get_or ys i e)
zip_at R [] ys i d e zip below = absurd (omega (arith, below))
zip_at R (x ∷ xs) [] i d e zip below = absurd zip
zip_at R (x ∷ xs) (y ∷ ys) zero d e zip below = zip.0
zip_at R (x ∷ xs) (y ∷ ys) (suc i) d e zip below = zip_at R xs ys i d e zip.1 (omega (arith, below))

element : {A : Type 0} (xs : List A) (i : ℕ) → i < length xs → A
element [] i below = absurd (omega (arith, below))
element (x ∷ xs) i below = x

-- a search ended at the account of a route
pub record HasFound (job : JobShape) (number : ℕ) (told : List RouteAccount) (r : Result ℕ ℕ) : Type 0 where
  pub at : ℕ
  pub within : at < length told
  pub is : r ≡ Ok at
  pub account : (d : RouteAccount) → IsRouteAccount job number (get_or told at d)

module _ (job : JobShape) (stone number : ℕ) (told : List RouteAccount)
    (zip : AllZip (λ (a : RouteAccount) (n : ℕ). IsRouteAccount job n a) told (routes_at job stone)) where
  long : length (routes_at job stone) ≡ length told
  long = AllZip-long (λ (a : RouteAccount) (n : ℕ). IsRouteAccount job n a) told (routes_at job stone) zip

  here : (i : ℕ) (d : RouteAccount) → i < length told → IsRouteAccount job (get_or (routes_at job stone) i 0) (get_or told i d)
  here i d below = zip_at (λ (a : RouteAccount) (n : ℕ). IsRouteAccount job n a) told (routes_at job stone) i d 0 zip below

  keys_rise : (d : RouteAccount) (i j : ℕ) → i ≤ j → j < length told → (get_or told i d).route ≤ (get_or told j d).route
  keys_rise d i j le below =
      let rises = ending-rises stone 0 job.routes i j le (omega (arith, below, long)) in
      let first = (here i d (omega (arith, le, below))).same in
      let second = (here j d below).same in
      omega (arith, rises, first, second)

  -- the search for a route that ends in the stone finds its account
  pub route_found : (route : Route) → slice_get job.routes number ≡ Some route → last_stone route ≡ stone → (r : Result ℕ ℕ)
      → IsSearchInRange r (length told) → IsBinarySearchResult (λ (a : RouteAccount). nat_cmp a.route number) told r
      → HasFound job number told r
  route_found route there ends r in_range result =
      let test : (last_stone route == stone) ≡ true = grind (arith, nat_tests, ends) in
      let among = ending-in stone 0 number job.routes route there test in
      let below : among.at < length told = let w = among.within in omega (arith, w, long) in
      let d = element told among.at below in
      let key : (get_or told among.at d).route ≡ number = (here among.at d below).same ∙ among.is ∙ omega arith in
      let at = found (λ (a : RouteAccount). a.route) told number d (keys_rise d) among.at below key r in_range result in
      record {
        at = at.at;
        within = at.within;
        is = at.is;
        account = λ e. subst (λ n. IsRouteAccount job n (get_or told at.at e)) (sym (here at.at d at.within).same ∙ at.key_is)
            (here at.at e at.within);
      }

-- the account that the search ended at
pub found_at : (job : JobShape) (number : ℕ) (told : List RouteAccount) (r : Result ℕ ℕ) (at : ℕ) (account : RouteAccount)
    → HasFound job number told r → r ≡ Ok at → account ≡ get_or told at account → IsRouteAccount job number account
found_at job number told r at account has is read =
    let same : has.at ≡ at = let e = sym has.is ∙ is in cc in
    subst (IsRouteAccount job number) (ap (λ k. get_or told k account) same ∙ sym read) (has.account account)

pub not_missed : (job : JobShape) (number : ℕ) (told : List RouteAccount) (r : Result ℕ ℕ) (k : ℕ) → HasFound job number told r
    → r ≡ Err k → ⊥
not_missed job number told r k has is = let e = sym has.is ∙ is in cc

-- the search among the accounts of a route's last stone
pub account_found : (job : JobShape) (accounts : List Account) → AreAccounts job accounts → (number : ℕ) (route : Route)
    → slice_get job.routes number ≡ Some route → (stone : ℕ) → stone ≡ last_stone route → stone < length accounts → (account : Account)
    → account ≡ get_or accounts stone account → (told : List RouteAccount) → told ≡ (get_or accounts stone account).routes.items
    → (r : Result ℕ ℕ) → IsSearchInRange r (length told) → IsBinarySearchResult (λ (a : RouteAccount). nat_cmp a.route number) told r
    → HasFound job number told r
account_found job accounts are number route there stone ends below account read told same r in_range result =
    let each = are.each stone account (slice_get_read accounts (length accounts) stone account refl below read) in
    let listed : account.routes.items ≡ told = ap (λ (a : Account). a.routes.items) read ∙ sym same in
    let zip = subst (λ (l : List RouteAccount). AllZip (λ (a : RouteAccount) (n : ℕ). IsRouteAccount job n a) l
    (routes_at job account.stone))
    listed each.1.routes in
    route_found job account.stone number told zip route there (sym ends ∙ sym each.0) r in_range result

-- a list's last number
pub last_read : (xs : List ℕ) (x : ℕ) → slice_get xs (length xs - 1) ≡ Some x → last_of xs ≡ x
last_read [] x there = cc
last_read (y ∷ []) x there = cc
last_read (y ∷ z ∷ xs) x there =
    let here : slice_get (z ∷ xs) (length xs) ≡ Some x =
    subst (λ k. slice_get (y ∷ z ∷ xs) k ≡ Some x) {y = suc (length xs)} (omega arith) there in
    last_read (z ∷ xs) x (subst (λ k. slice_get (z ∷ xs) k ≡ Some x) {x = length xs} (omega arith) here)

pub last_missing : (xs : List ℕ) → slice_get xs (length xs - 1) ≡ None → last_of xs ≡ 0
last_missing [] none = refl
last_missing (x ∷ xs) none = let there = slice_get-get_or (x ∷ xs) (length (x ∷ xs) - 1) 0 (omega arith) in cc
