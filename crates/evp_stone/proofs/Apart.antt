-- Routes and outlets of a stone are told apart by their numbers.
use Rattle.std.proofs.Common.{◌≡◌, ◌≢◌, ℕ, zero, suc, ◌+◌, ◌<◌, ◌≤◌, Bool, List, [], ◌∷◌, ◌++◌, Some}
use Rattle.std.proofs.Common.{refl, sym, ap, ◌∙◌, arith, ⊎_elim}
use Rattle.std.proofs.lemmas.Bool.Decides.{eqb_tells}
use Rattle.std.proofs.lemmas.Option.{slice_get_within, get_or_from_slice_get, slice_get-map, same_Some}
use Rattle.std.specs.Prelude.{if◌then◌else◌}
use Rattle.std.specs.List.{slice_get, AllPairs}
use Rattle.evp_graph.specs.declared.route.Route.{Route}
use Rattle.evp_stone.specs.JobShape.{JobShape}
use Rattle.evp_stone.specs.Route.{last_stone}
use Rattle.evp_stone.specs.State.{GoesOn, RouteWork, numbers_of}
use Rattle.evp_stone.specs.Tallied.{ending_from, routes_at}

-- one element stands at one place
pub same_place : {X : Type 0} (xs : List X) (i j : ℕ) (x : X) → AllPairs ◌≢◌ xs → slice_get xs i ≡ Some x → slice_get xs j ≡ Some x → i ≡ j
same_place xs i j x apart at there =
    let one = get_or_from_slice_get xs i x x at in
    let other = get_or_from_slice_get xs j x x there in
    let before : i < j → ⊥ = λ below. apart i j x below (slice_get_within xs j x there) (one ∙ sym other) in
    let behind : j < i → ⊥ = λ below. apart j i x below (slice_get_within xs i x at) (other ∙ sym one) in
    omega (arith, before, behind)

snoc_same : (xs ys : List ℕ) (x y : ℕ) → xs ++ x ∷ [] ≡ ys ++ y ∷ [] → (xs ≡ ys) × (x ≡ y)
snoc_same [] [] x y same = (refl, cc)
snoc_same [] (y ∷ []) x z same = absurd (cc)
snoc_same [] (y ∷ w ∷ ys) x z same = absurd (cc)
snoc_same (x ∷ []) [] y z same = absurd (cc)
snoc_same (x ∷ w ∷ xs) [] y z same = absurd (cc)
snoc_same (a ∷ xs) (b ∷ ys) x y same =
    let rest = snoc_same xs ys x y (cc) in
    (let head : a ≡ b = cc in let tail = rest.0 in cc, rest.1)

-- a route goes on from one route, at one position
pub goes_on_once : (route other longer : Route) (position at : ℕ) → GoesOn route position longer → GoesOn other at longer
    → (route ≡ other) × (position ≡ at)
goes_on_once route other longer position at one two =
    let positions = snoc_same route.positions other.positions position at (sym one.positions ∙ two.positions) in
    let stones = snoc_same route.stones other.stones one.stone two.stone (sym one.stones ∙ two.stones) in
    let source : route.source ≡ other.source = sym one.source ∙ two.source in (
      ap (λ (n : ℕ). record { source = n; positions = route.positions; stones = route.stones }) source
          ∙ ap (λ (l : List ℕ). record { source = other.source; positions = l; stones = route.stones }) positions.0
          ∙ ap (λ (l : List ℕ). record { source = other.source; positions = other.positions; stones = l }) stones.0,
      positions.1,
    )

-- a number of a route that ends in the stone
pub record Ends (stone first : ℕ) (routes : List Route) (number : ℕ) : Type 0 where
  pub behind : first ≤ number
  pub place : ℕ
  pub is : number ≡ first + place
  pub route : Route
  pub there : slice_get routes place ≡ Some route
  pub last : last_stone route ≡ stone

later_end : (stone first : ℕ) (route : Route) (routes : List Route) (number : ℕ) → Ends stone (first + 1) routes number
    → Ends stone first (route ∷ routes) number
later_end stone first route routes number ends = record {
  behind = let b = ends.behind in omega arith;
  place = suc ends.place;
  is = let e = ends.is in omega arith;
  route = ends.route;
  there = ends.there;
  last = ends.last;
}

end_here : (stone first : ℕ) (route : Route) (routes : List Route) (number : ℕ) → last_stone route ≡ stone → first ≡ number
    → Ends stone first (route ∷ routes) number
end_here stone first route routes number last is = record {
  behind = omega arith;
  place = 0;
  is = omega arith;
  route = route;
  there = refl;
  last = last;
}

pub end_at : (stone first : ℕ) (routes : List Route) (i number : ℕ) → slice_get (ending_from stone first routes) i ≡ Some number
    → Ends stone first routes number
end_at stone first [] i number at = absurd (cc)
end_at stone first (route ∷ routes) i number at =
    let more = ending_from stone (first + 1) routes in
    ⊎_elim (λ e. with_end stone first route routes i number e.1
    (ap (λ (b : Bool). slice_get (if b then first ∷ more else more) i) (sym e.0) ∙ at)
    (end_at stone (first + 1) routes))
    (λ e. later_end stone first route routes number (end_at stone (first + 1) routes i number
    (ap (λ (b : Bool). slice_get (if b then first ∷ more else more) i) (sym e.0) ∙ at)))
    (eqb_tells (last_stone route) stone)
  where
    with_end : (stone first : ℕ) (route : Route) (routes : List Route) (i number : ℕ) → last_stone route ≡ stone
        → slice_get (first ∷ ending_from stone (first + 1) routes) i ≡ Some number
        → ((j n : ℕ) → slice_get (ending_from stone (first + 1) routes) j ≡ Some n → Ends stone (first + 1) routes n)
        → Ends stone first (route ∷ routes) number
    with_end stone first route routes zero number last at rest = end_here stone first route routes number last (cc)
    with_end stone first route routes (suc i) number last at rest = later_end stone first route routes number (rest i number at)

-- a number is there once
pub end_once : (stone first : ℕ) (routes : List Route) (i j number : ℕ) → slice_get (ending_from stone first routes) i ≡ Some number
    → slice_get (ending_from stone first routes) j ≡ Some number → i ≡ j
end_once stone first [] i j number at there = absurd (cc)
end_once stone first (route ∷ routes) i j number at there =
    let more = ending_from stone (first + 1) routes in
    ⊎_elim (λ e. one_end stone first routes i j number
    (ap (λ (b : Bool). slice_get (if b then first ∷ more else more) i) (sym e.0) ∙ at)
    (ap (λ (b : Bool). slice_get (if b then first ∷ more else more) j) (sym e.0) ∙ there)
    (end_once stone (first + 1) routes))
    (λ e. end_once stone (first + 1) routes i j number
    (ap (λ (b : Bool). slice_get (if b then first ∷ more else more) i) (sym e.0) ∙ at)
    (ap (λ (b : Bool). slice_get (if b then first ∷ more else more) j) (sym e.0) ∙ there))
    (eqb_tells (last_stone route) stone)
  where
    one_end : (stone first : ℕ) (routes : List Route) (i j number : ℕ)
        → slice_get (first ∷ ending_from stone (first + 1) routes) i ≡ Some number
        → slice_get (first ∷ ending_from stone (first + 1) routes) j ≡ Some number
        → ((i j n : ℕ) → slice_get (ending_from stone (first + 1) routes) i ≡ Some n
        → slice_get (ending_from stone (first + 1) routes) j ≡ Some n → i ≡ j)
        → i ≡ j
    one_end stone first routes zero zero number at there rest = refl
    one_end stone first routes zero (suc j) number at there rest =
        let is : first ≡ number = cc in
        let e = (end_at stone (first + 1) routes j number there).behind in absurd (omega arith)
    one_end stone first routes (suc i) zero number at there rest =
        let is : first ≡ number = cc in
        let e = (end_at stone (first + 1) routes i number at).behind in absurd (omega arith)
    one_end stone first routes (suc i) (suc j) number at there rest = ap suc (rest i j number at there)

-- a work's number among those of the routes that end in its stone
pub number_at : (works : List RouteWork) (numbers : List ℕ) (place : ℕ) (work : RouteWork) → numbers_of works ≡ numbers
    → slice_get works place ≡ Some work → slice_get numbers place ≡ Some work.route
number_at works numbers place work are at =
    ap (λ (l : List ℕ). slice_get l place) (sym are) ∙ rw (slice_get-map (λ (w : RouteWork). w.route) works place, at) refl

-- the routes on which a stone works end in it
pub its_last : (job : JobShape) (stone : ℕ) (works : List RouteWork) (place : ℕ) (work : RouteWork) (route : Route)
    → numbers_of works ≡ routes_at job stone → slice_get works place ≡ Some work → slice_get job.routes work.route ≡ Some route
    → last_stone route ≡ stone
its_last job stone works place work route are at there =
    let end = end_at stone 0 job.routes place work.route (number_at works (routes_at job stone) place work are at) in
    let same : end.place ≡ work.route = let e = end.is in omega arith in
    ap last_stone (same_Some route end.route (sym there ∙ ap (slice_get job.routes) (sym same) ∙ end.there)) ∙ end.last
