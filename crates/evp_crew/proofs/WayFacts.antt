-- Ways are found one after another.
use Rattle.std.proofs.Common.{◌≡◌, ℕ, zero, suc, ◌+◌, ◌<◌, ◌≤◌, true, List, [], ◌∷◌, ◌++◌, length, get_or, Option, Some, None}
use Rattle.std.proofs.Common.{refl, sym, ap, subst, ◌∙◌, inl, inr, ⊎_elim, arith}
use Rattle.std.specs.Prelude.{◌⊎◌}
use Rattle.std.proofs.lemmas.Bool.Decides.{eqb_tells, nat_tests}
use Rattle.std.proofs.lemmas.Option.{slice_get_within}
use Rattle.std.specs.List.{slice_get}
use Rattle.evp_graph.specs.declared.route.Route.{Route}
use Rattle.evp_queue.specs.Counts.{is_among}
use Rattle.evp_stone.specs.JobShape.{JobShape}
use Rattle.evp_crew.specs.Ways.{before_last, IsWay, AreWays}

pub before_none : (stones : List ℕ) → length stones < 2 → before_last stones ≡ None
before_none [] few = refl
before_none (s ∷ []) few = refl
before_none (s ∷ t ∷ stones) few = absurd (omega arith)

pub before_at : (stones : List ℕ) (place x d : ℕ) → place + 2 ≡ length stones → x ≡ get_or stones place d → before_last stones ≡ Some x
before_at [] place x d long is = absurd (omega arith)
before_at (s ∷ []) place x d long is = absurd (omega arith)
before_at (s ∷ t ∷ []) zero x d long is = ap (λ (n : ℕ). Some n) (sym is)
before_at (s ∷ t ∷ []) (suc place) x d long is = absurd (omega arith)
before_at (s ∷ t ∷ u ∷ stones) zero x d long is = absurd (omega arith)
before_at (s ∷ t ∷ u ∷ stones) (suc place) x d long is = before_at (t ∷ u ∷ stones) place x d (omega arith) is

among_kept : (x y : ℕ) (xs : List ℕ) → is_among x xs ≡ true → is_among x (xs ++ y ∷ []) ≡ true
among_kept x y [] is = absurd (cc)
among_kept x y (z ∷ xs) is = let more = among_kept x y xs in grind (arith, nat_tests, more)

among_last : (x : ℕ) (xs : List ℕ) → is_among x (xs ++ x ∷ []) ≡ true
among_last x [] = grind (arith, nat_tests)
among_last x (z ∷ xs) = let more = among_last x xs in grind (arith, nat_tests, more)

among_either : (x y : ℕ) (xs : List ℕ) → is_among x (xs ++ y ∷ []) ≡ true → (is_among x xs ≡ true) ⊎ (x ≡ y)
among_either x y [] is =
    ⊎_elim (λ e. inr (sym e.1)) (λ e. absurd (let no = e.0 in grind (arith, nat_tests, no, is))) (eqb_tells y x)
among_either x y (z ∷ xs) is =
    ⊎_elim (λ e. inl (rw e.0)) (λ e. ⊎_elim (λ a. inl (rw e.0 a)) inr (among_either x y xs (rw e.0 at is))) (eqb_tells z x)

module _ (job : JobShape) (giver : Option ℕ) (target : ℕ) where
  -- so far the routes below this number were looked at
  pub record WaysSoFar (behind : ℕ) (numbers : List ℕ) : Type 0 where
    pub each : (number : ℕ) → is_among number numbers ≡ true
        → (route : Route) × (slice_get job.routes number ≡ Some route) × IsWay job giver target route
    pub all : (number : ℕ) (route : Route) → number < behind → slice_get job.routes number ≡ Some route
        → IsWay job giver target route → is_among number numbers ≡ true

  pub ways_none : (numbers : List ℕ) → numbers ≡ [] → WaysSoFar 0 numbers
  ways_none numbers none = subst (WaysSoFar 0) (sym none) record {
    each = λ number is. absurd (cc);
    all = λ number route below. absurd (omega arith);
  }

  pub ways_one : (behind : ℕ) (numbers : List ℕ) (route : Route) → slice_get job.routes behind ≡ Some route → IsWay job giver target route
      → WaysSoFar behind numbers → WaysSoFar (behind + 1) (numbers ++ behind ∷ [])
  ways_one behind numbers route at is was = record {
    each = λ number among. ⊎_elim (was.each number)
        (λ e. (route, ap (slice_get job.routes) e ∙ at, is)) (among_either number behind numbers among);
    all = λ number r below there way.
        ⊎_elim (λ e. subst (λ (n : ℕ). is_among n (numbers ++ behind ∷ []) ≡ true) (sym e.1) (among_last behind numbers))
        (λ e. let apart = e.1 in among_kept number behind numbers (was.all number r (omega (arith, apart)) there way))
        (eqb_tells number behind);
  }

  pub ways_not : (behind : ℕ) (numbers : List ℕ) (route : Route) → slice_get job.routes behind ≡ Some route
      → (IsWay job giver target route → ⊥) → WaysSoFar behind numbers → WaysSoFar (behind + 1) numbers
  ways_not behind numbers route at not was = record {
    each = was.each;
    all = λ number r below there way.
        ⊎_elim (λ e. absurd (not (subst (IsWay job giver target) (same_route r route (sym there ∙ ap (slice_get job.routes) e.1 ∙ at))
        way)))
        (λ e. let apart = e.1 in was.all number r (omega (arith, apart)) there way)
        (eqb_tells number behind);
  }
    where
      same_route : (a b : Route) → Some a ≡ Some b → a ≡ b
      same_route a b same = cc

  pub ways_all : (behind : ℕ) (numbers : List ℕ) → length job.routes ≤ behind → WaysSoFar behind numbers
      → AreWays job giver target numbers
  ways_all behind numbers long was = record {
    each = was.each;
    all = λ number route there way.
        let below = slice_get_within job.routes number route there in was.all number route (omega arith) there way;
  }
