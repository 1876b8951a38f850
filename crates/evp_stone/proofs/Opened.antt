-- A stone's actor before its first turn has its state with every fresh port.
use Rattle.std.proofs.Common.{◌≡◌, ℕ, zero, suc, ◌+◌, ◌≤◌, List, [], ◌∷◌, ◌++◌, length, get_or, Some, None}
use Rattle.std.proofs.Common.{refl, sym, ap, subst, ◌∙◌, arith}
use Rattle.std.proofs.lemmas.Bool.Decides.{nat_tests}
use Rattle.std.proofs.lemmas.List.{length-map}
use Rattle.std.proofs.lemmas.Option.{slice_get_within, slice_get-get_or, get_or_from_slice_get}
use Rattle.std.specs.Prelude.{Bool, true, false, if◌then◌else◌, ◌==◌}
use Rattle.std.specs.List.{slice_get, Contains, AllByRecursion}
use Rattle.evp_graph.specs.declared.route.Route.{Route}
use Rattle.evp_graph.proofs.Lists.{Each-weaker}
use Rattle.evp_queue.specs.Flow.{Carries}
use Rattle.evp_stone.specs.declared.account.RoundAccount.{RoundAccount}
use Rattle.evp_stone.specs.Accounts.{arrivals, flow_of}
use Rattle.evp_stone.specs.Actor.{works, count_unended}
use Rattle.evp_stone.specs.Carried.{Carried}
use Rattle.evp_stone.specs.Entries.{flow, stands_for, route_of, position_of}
use Rattle.evp_stone.specs.Flow.{Part}
use Rattle.evp_stone.specs.JobShape.{JobShape}
use Rattle.evp_stone.specs.Opening.{IsUntouched, IsFresh}
use Rattle.evp_stone.specs.Port.{Counting}
use Rattle.evp_stone.specs.Route.{last_stone}
use Rattle.evp_stone.specs.Starting.{IsUnused, Starts}
use Rattle.evp_stone.specs.State.{Received, Running, Outlet, RouteWork, StoneWork, IsFront, front_of, Works, held_before, is_frozen}
use Rattle.evp_stone.specs.State.{HasSent, HasWorked, IsAmong, HasState, numbers_of}
use Rattle.evp_stone.specs.Tallied.{routes_at}
use Rattle.evp_stone.specs.Turning.{nothing_done}
use Rattle.evp_stone.proofs.Apart.{number_at}

pub each_at : {X : Type 0} (P : X → Type 0) (xs : List X) (k : ℕ) (x : X) → AllByRecursion P xs → slice_get xs k ≡ Some x → P x
each_at P [] k x each at = absurd (cc)
each_at P (y ∷ xs) zero x each at = let is : y ≡ x = cc in subst P is each.0
each_at P (y ∷ xs) (suc k) x each at = each_at P xs k x each.1 at

-- before the first round nothing has come
none_first : (parts : List Part) (arrived : List (List Carried)) → IsFront parts 0 (front_of arrived 0 [])
none_first parts arrived = record { others = parts; whole = refl; long = refl }

-- and a stone keeps nothing and has acted on nothing, frozen or not
works_first : (job : JobShape) (route : Route) (frozen : Bool) → Works frozen (held_before job route 0 ++ []) [] []
works_first job route true = (refl, refl)
works_first job route false = refl

-- what a stone does on a route on which nothing was done
abbrev pub untouched : ℕ → List Outlet → RouteWork
untouched number outlets = record { route = number; outlets = outlets; kept = []; ended = []; running = nothing_done }

abbrev pub opening : ℕ → List RouteWork → StoneWork
opening stone routes = record { stone = stone; waiting = []; hand = None; routes = routes }

starts_is : (job : JobShape) (stone : ℕ) (work : RouteWork) → Starts job stone work → untouched work.route work.outlets ≡ work
starts_is job stone work starts =
    ap (λ (l : List Received). record (untouched work.route work.outlets) { kept = l }) (sym starts.kept)
    ∙ ap (λ (l : List RoundAccount). record (untouched work.route work.outlets) { kept = work.kept; ended = l }) (sym starts.ended)
    ∙ ap (λ (running : Running). record work { running = running }) (sym starts.running)

module _ (job : JobShape) (stone unended : ℕ) (routes : List RouteWork) (taken given : Counting)
    (fresh : IsFresh job (works (opening stone routes) unended) taken given) where
  sent_none : (number : ℕ) (route : Route) → slice_get job.routes number ≡ Some route → last_stone route ≡ stone
      → (position : ℕ) (outlet : Outlet) → IsUnused job route position outlet → HasSent job given [] route 0 [] position outlet
  sent_none number route there last position outlet unused =
      let longer = unused.longer in
      record {
        longer = longer;
        there = unused.there;
        goes_on = unused.goes_on;
        so_far = 0;
        count = fresh.gives outlet.route longer unused.there
            (record { number = number; route = route; there = there; last = last; position = position; goes_on = unused.goes_on });
        waits = subst (λ (n : ℕ). Carries route_of position_of flow stands_for job outlet.route 0 n []) (sym unused.none)
            (record { behind = omega arith; within = omega arith; stand = tt });
        lined = subst (λ (n : ℕ). IsFront (flow_of job longer) n []) (sym unused.none)
            (none_first (flow_of job longer) (arrivals job longer));
      }

  has_worked : (place : ℕ) (here : RouteWork) → numbers_of routes ≡ routes_at job stone → slice_get routes place ≡ Some here
      → Starts job stone here → HasWorked job taken given None [] here
  has_worked place here numbers at starts =
      let route = starts.route in
      let listed = number_at routes (routes_at job stone) place here numbers at in
      let there : Contains (routes_at job stone) here.route = (
        place,
        slice_get_within (routes_at job stone) place here.route listed,
        get_or_from_slice_get (routes_at job stone) place here.route here.route listed,
      ) in
      subst (HasWorked job taken given None []) (starts_is job stone here starts) (record {
        route = route;
        there = starts.there;
        handled = 0;
        new = [];
        count = fresh.takes here.route there;
        came = none_first (flow_of job route) (arrivals job route);
        rounds = omega arith;
        done = [];
        kept = [];
        works = works_first job route (is_frozen job (last_stone route) 0);
        stored = tt;
        ended = tt;
        running = record { passed = refl; dropped = refl; refused = refl; arrived = tt };
        outlets = starts.outlets.count;
        sent = λ position outlet is. sent_none here.route route starts.there starts.last position outlet
            (starts.outlets.each position outlet is);
      })

  is_among : (number : ℕ) → numbers_of routes ≡ routes_at job stone → Contains (routes_at job stone) number → IsAmong routes number
  is_among number numbers there =
      let none = untouched 0 [] in
      let work = get_or routes there.0 none in
      let long = ap length numbers in
      let same = length-map routes (λ (w : RouteWork). w.route) in
      let here = slice_get-get_or routes there.0 none (omega (arith, there.1, long, same)) in
      record {
        place = there.0;
        work = work;
        here = here;
        is = sym (get_or_from_slice_get (routes_at job stone) there.0 work.route number
            (number_at routes (routes_at job stone) there.0 work numbers here)) ∙ there.2;
      }

  -- the state
  pub opens : numbers_of routes ≡ routes_at job stone → AllByRecursion (Starts job stone) routes
      → HasState job taken given (opening stone routes)
  opens numbers starts = record {
    numbers = numbers;
    port = λ number count is. is_among number numbers (fresh.others number count is);
    hand = λ entry is. absurd (cc);
    waiting = tt;
    each = λ place here at. has_worked place here numbers at (each_at (Starts job stone) routes place here starts at);
  }

-- all of its routes have rounds to come
pub all_unended : (rounds : ℕ) (routes : List RouteWork) → 1 ≤ rounds → AllByRecursion IsUntouched routes
    → count_unended rounds routes ≡ length routes
all_unended rounds [] some each = refl
all_unended rounds (work ∷ routes) some each =
    let first : (0 == rounds) ≡ false = grind (arith, nat_tests) in
    let rest = all_unended rounds routes some each.1 in
    ap (λ (l : List RoundAccount). (if length l == rounds then 0 else 1) + count_unended rounds routes) each.0.ended
    ∙ ap (λ (b : Bool). (if b then 0 else 1) + count_unended rounds routes) first
    ∙ omega (arith, rest)

pub are_untouched : (job : JobShape) (stone : ℕ) (routes : List RouteWork) → AllByRecursion (Starts job stone) routes
    → AllByRecursion IsUntouched routes
are_untouched job stone routes start =
    Each-weaker (Starts job stone) IsUntouched (λ work starts. record { kept = starts.kept; ended = starts.ended }) routes start
