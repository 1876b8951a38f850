-- The routes of a stone are found one after another, and the outlets of a route.
use Rattle.std.proofs.Common.{◌≡◌, ◌≢◌, ℕ, ◌+◌, Bool, true, false, List, [], ◌∷◌, ◌++◌, length, drop, Some, append_assoc}
use Rattle.std.proofs.Common.{sym, ap, subst, ◌∙◌, arith, length-append, ⊎_elim}
use Rattle.std.proofs.lemmas.Bool.{eq-eqb}
use Rattle.std.proofs.lemmas.Bool.Decides.{eqb_tells}
use Rattle.std.proofs.lemmas.List.{drop_more, map-append}
use Rattle.std.proofs.lemmas.Option.{slice_get_within, get_or_from_slice_get}
use Rattle.std.specs.Prelude.{if◌then◌else◌, ◌==◌}
use Rattle.std.specs.List.{slice_get, AllByRecursion}
use Rattle.evp_graph.specs.declared.route.Route.{Route}
use Rattle.evp_graph.proofs.Lists.{Each-append}
use Rattle.evp_stone.specs.JobShape.{JobShape}
use Rattle.evp_stone.specs.Route.{last_stone}
use Rattle.evp_stone.specs.Starting.{IsUnused, Starts}
use Rattle.evp_stone.specs.State.{Outlet, RouteWork, numbers_of}
use Rattle.evp_stone.specs.Tallied.{ending_from, routes_at}
use Rattle.evp_stone.proofs.Elements.{snoc_at}

drop_at : {X : Type 0} (xs : List X) (k : ℕ) (x : X) → slice_get xs k ≡ Some x → drop k xs ≡ x ∷ drop (k + 1) xs
drop_at xs k x at =
    drop_more xs k x (slice_get_within xs k x at) ∙ ap (λ y. y ∷ drop (k + 1) xs) (get_or_from_slice_get xs k x x at)

module _ (job : JobShape) (stone : ℕ) where
  -- so far the routes below this number were looked at
  pub record StartingSoFar (number : ℕ) (works : List RouteWork) : Type 0 where
    pub numbers : numbers_of works ++ ending_from stone number (drop number job.routes) ≡ routes_at job stone
    pub start : AllByRecursion (Starts job stone) works

  -- the route of this number ends in the stone
  pub starting_one : (number : ℕ) (works : List RouteWork) (route : Route) (work : RouteWork) → slice_get job.routes number ≡ Some route
      → last_stone route ≡ stone → work.route ≡ number → Starts job stone work → StartingSoFar number works
      → StartingSoFar (number + 1) (works ++ work ∷ [])
  starting_one number works route work at last is starts was =
      let more = ending_from stone (number + 1) (drop (number + 1) job.routes) in
      let this : (last_stone route == stone) ≡ true = eq-eqb (last_stone route) stone last in
      let found : ending_from stone number (drop number job.routes) ≡ number ∷ more =
      ap (ending_from stone number) (drop_at job.routes number route at)
      ∙ ap (λ (b : Bool). if b then number ∷ more else more) this in
      record {
        numbers = ap (λ (l : List ℕ). l ++ more) (map-append (λ (w : RouteWork). w.route) works (work ∷ []))
            ∙ append_assoc (numbers_of works) (work.route ∷ []) more
            ∙ ap (λ (n : ℕ). numbers_of works ++ n ∷ more) is
            ∙ ap (λ (l : List ℕ). numbers_of works ++ l) (sym found) ∙ was.numbers;
        start = Each-append (Starts job stone) works (work ∷ []) was.start (starts, tt);
      }

  -- it ends in another
  pub starting_not : (number : ℕ) (works : List RouteWork) (route : Route) → slice_get job.routes number ≡ Some route
      → last_stone route ≢ stone → StartingSoFar number works → StartingSoFar (number + 1) works
  starting_not number works route at other was =
      let more = ending_from stone (number + 1) (drop (number + 1) job.routes) in
      let this : (last_stone route == stone) ≡ false = ⊎_elim (λ e. absurd (other e.1)) (λ e. e.0) (eqb_tells (last_stone route) stone) in
      let found : ending_from stone number (drop number job.routes) ≡ more =
      ap (ending_from stone number) (drop_at job.routes number route at)
      ∙ ap (λ (b : Bool). if b then number ∷ more else more) this in
      record { numbers = ap (λ (l : List ℕ). numbers_of works ++ l) (sym found) ∙ was.numbers; start = was.start }

module _ (job : JobShape) (route : Route) where
  -- so far there are the outlets of the positions below this one
  pub record UnusedSoFar (position : ℕ) (outlets : List Outlet) : Type 0 where
    pub count : length outlets ≡ position
    pub each : (k : ℕ) (outlet : Outlet) → slice_get outlets k ≡ Some outlet → IsUnused job route k outlet

  pub unused_one : (position : ℕ) (outlets : List Outlet) (outlet : Outlet) → IsUnused job route position outlet
      → UnusedSoFar position outlets → UnusedSoFar (position + 1) (outlets ++ outlet ∷ [])
  unused_one position outlets outlet unused was = record {
    count = omega (arith, length-append outlets (outlet ∷ []), was.count);
    each = λ k o at. ⊎_elim (λ e. was.each k o e)
        (λ e. subst (IsUnused job route k) e.1 (subst (λ n. IsUnused job route n outlet) (sym (e.0 ∙ was.count)) unused))
        (snoc_at outlets outlet o k at);
  }
