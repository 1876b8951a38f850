-- When each round of each route has ended: the accounts are those of the job's rounds.
use Rattle.std.proofs.Common.{◌≡◌, ℕ, suc, List, [], ◌∷◌, length, take, Some, refl, sym, subst, ◌∙◌, arith}
use Rattle.std.proofs.lemmas.List.{take_all, length-map}
use Rattle.std.specs.List.{slice_get, AllZip}
use Rattle.evp_graph.specs.declared.route.Route.{Route}
use Rattle.evp_stone.specs.declared.account.RouteAccount.{RouteAccount}
use Rattle.evp_stone.specs.Accounts.{act_of, arrivals, rounds_of, accounts_of, freezes_of}
use Rattle.evp_stone.specs.Job.{IsJob}
use Rattle.evp_stone.specs.JobShape.{JobShape}
use Rattle.evp_stone.specs.Port.{Counting}
use Rattle.evp_stone.specs.Route.{last_stone}
use Rattle.evp_stone.specs.State.{RouteWork, StoneWork, HasState, round_in, numbers_of}
use Rattle.evp_stone.specs.Tallied.{IsTallied, IsRouteAccount, routes_at}
use Rattle.evp_stone.specs.Tally.{account_of}
use Rattle.evp_stone.proofs.Begins.{length-rounds}
use Rattle.evp_stone.proofs.JobFacts.{ends_at, length-arrive}
use Rattle.evp_stone.proofs.Routes.{HasEnds}
use Rattle.evp_stone.proofs.Whole.{each}

length-accounts : (job : JobShape) (route : Route) → HasEnds route → length (accounts_of job route) ≡ length job.rounds
length-accounts job route ends =
    let stone = last_stone route in
    let long = length-arrive job route ends in
    let same : length (freezes_of job stone) ≡ length (arrivals job route) = each job route ends stone ∙ sym long in
    length-map (rounds_of job route) (account_of (act_of job) stone)
    ∙ length-rounds [] (freezes_of job stone) (arrivals job route) same ∙ long

-- the account that a stone hands in for a route
abbrev pub account_for : RouteWork → RouteAccount → Type 0
account_for work account = (account.route ≡ work.route) × (account.rounds.items ≡ work.ended)

module _ (job : JobShape) (is_job : IsJob job) (taken given : Counting) (old : StoneWork) (state : HasState job taken given old) where
  route_account : (place : ℕ) (here : RouteWork) (account : RouteAccount) → slice_get old.routes place ≡ Some here
      → round_in here ≡ length job.rounds → account_for here account → IsRouteAccount job here.route account
  route_account place here account at ended is =
      let was = state.each place here at in
      let long = length-accounts job was.route (ends_at job is_job here.route was.route was.there) in
      let all : take (round_in here) (accounts_of job was.route) ≡ accounts_of job was.route =
      take_all (round_in here) (accounts_of job was.route) (omega arith) in
      record {
        route = was.route;
        same = is.0;
        there = was.there;
        rounds = subst (λ l. AllZip (IsTallied job.formats) l (accounts_of job was.route)) (sym is.1)
            (subst (λ l. AllZip (IsTallied job.formats) here.ended l) all was.ended);
      }

all_accounts : (job : JobShape) (works : List RouteWork) (accounts : List RouteAccount) → AllZip account_for works accounts
    → ((place : ℕ) (here : RouteWork) (account : RouteAccount) → slice_get works place ≡ Some here → account_for here account
    → IsRouteAccount job here.route account)
    → AllZip (λ account number. IsRouteAccount job number account) accounts (numbers_of works)
all_accounts job [] [] are each = tt
all_accounts job [] (a ∷ accounts) are each = absurd are
all_accounts job (w ∷ works) [] are each = absurd are
all_accounts job (w ∷ works) (a ∷ accounts) are each =
    (each 0 w a refl are.0, all_accounts job works accounts are.1 (λ place here account at. each (suc place) here account at))

-- accounts of routes whose rounds have all ended
pub closed_accounts : (job : JobShape) → IsJob job → (taken given : Counting) (old : StoneWork) → HasState job taken given old
    → ((place : ℕ) (here : RouteWork) → slice_get old.routes place ≡ Some here → round_in here ≡ length job.rounds)
    → (accounts : List RouteAccount) → AllZip account_for old.routes accounts
    → AllZip (λ account number. IsRouteAccount job number account) accounts (routes_at job old.stone)
closed_accounts job is_job taken given old state ended accounts are =
    subst (λ (l : List ℕ). AllZip (λ account number. IsRouteAccount job number account) accounts l) state.numbers
    (all_accounts job old.routes accounts are
    (λ place here account at is. route_account job is_job taken given old state place here account at (ended place here at) is))
