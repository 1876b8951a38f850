-- The route that goes on from another is there, and the positions of a route tell its stones.
use Rattle.std.proofs.Common.{◌≡◌, ℕ, ◌+◌, ◌<◌, List, [], ◌∷◌, ◌++◌, length, get_or, Some, refl, sym, ap, subst, ◌∙◌}
use Rattle.std.proofs.Common.{⊎_elim, arith}
use Rattle.std.proofs.lemmas.Bool.Decides.{eqb_tells}
use Rattle.std.proofs.lemmas.Option.{slice_get-get_or}
use Rattle.std.specs.List.{slice_get, Contains}
use Rattle.evp_graph.specs.declared.route.Route.{Route}
use Rattle.evp_graph.specs.Routes.{Steps, Visits}
use Rattle.evp_graph.specs.Shape.{Shape, targets_of}
use Rattle.evp_stone.specs.Job.{IsJob}
use Rattle.evp_stone.specs.JobShape.{JobShape, graph_of}
use Rattle.evp_stone.specs.Route.{last_of, last_stone}
use Rattle.evp_stone.specs.Starting.{IsAlong, width_of}
use Rattle.evp_stone.specs.State.{GoesOn}
use Rattle.evp_stone.proofs.Routes.{is_route_at}

same_some : (x y : ℕ) → Some x ≡ Some y → x ≡ y
same_some x y same = cc

steps_same : (targets : List (List ℕ)) (a : ℕ) (positions xs ys : List ℕ) → Steps targets a positions xs → Steps targets a positions ys
    → xs ≡ ys
steps_same targets a [] [] [] s t = refl
steps_same targets a [] [] (y ∷ ys) s t = absurd t
steps_same targets a [] (x ∷ xs) ys s t = absurd s
steps_same targets a (p ∷ positions) [] ys s t = absurd s
steps_same targets a (p ∷ positions) (x ∷ xs) [] s t = absurd t
steps_same targets a (p ∷ positions) (x ∷ xs) (y ∷ ys) s t =
    let same : x ≡ y = same_some x y (sym s.0 ∙ t.0) in
    ap (λ (n : ℕ). n ∷ xs) same
    ∙ ap (λ (l : List ℕ). y ∷ l) (steps_same targets y positions xs ys (subst (λ n. Steps targets n positions xs) same s.1) t.1)

visits_same : (graph : Shape) (source : ℕ) (positions xs ys : List ℕ) → Visits graph source positions xs → Visits graph source positions ys
    → xs ≡ ys
visits_same graph source positions [] ys v w = absurd v
visits_same graph source positions (x ∷ xs) [] v w = absurd w
visits_same graph source positions (x ∷ xs) (y ∷ ys) v w =
    let same : x ≡ y = same_some x y (sym v.0 ∙ w.0) in
    ap (λ (n : ℕ). n ∷ xs) same
    ∙ ap (λ (l : List ℕ). y ∷ l)
    (steps_same graph.targets y positions xs ys (subst (λ n. Steps graph.targets n positions xs) same v.1) w.1)

steps_on : (targets : List (List ℕ)) (a : ℕ) (positions stones : List ℕ) (position b : ℕ) → Steps targets a positions stones
    → slice_get (targets_of targets (last_of (a ∷ stones))) position ≡ Some b
    → Steps targets a (positions ++ position ∷ []) (stones ++ b ∷ [])
steps_on targets a [] [] position b s at = (at, tt)
steps_on targets a [] (c ∷ stones) position b s at = absurd s
steps_on targets a (p ∷ positions) [] position b s at = absurd s
steps_on targets a (p ∷ positions) (c ∷ stones) position b s at = (s.0, steps_on targets c positions stones position b s.1 at)

visits_on : (graph : Shape) (source : ℕ) (positions stones : List ℕ) (position b : ℕ) → Visits graph source positions stones
    → slice_get (targets_of graph.targets (last_of stones)) position ≡ Some b
    → Visits graph source (positions ++ position ∷ []) (stones ++ b ∷ [])
visits_on graph source positions [] position b v at = absurd v
visits_on graph source positions (first ∷ stones) position b v at = (v.0, steps_on graph.targets first positions stones position b v.1 at)

module _ (job : JobShape) (is : IsJob job) (route : Route) (is_there : Contains job.routes route) (position : ℕ)
    (within : position < width_of job route) where
  abbrev row : List ℕ
  row = targets_of (graph_of job).targets (last_stone route)

  visits_longer : Visits (graph_of job) route.source (route.positions ++ position ∷ []) (route.stones ++ get_or row position 0 ∷ [])
  visits_longer = visits_on (graph_of job) route.source route.positions route.stones position (get_or row position 0)
      ((is.listed.each route).1 is_there) (slice_get-get_or row position 0 within)

  -- a target position leads on, by a route of the job
  pub longer_there : (k : ℕ) × IsAlong job route.source (route.positions ++ position ∷ []) k
  longer_there =
      let longer : Route = record {
        source = route.source;
        positions = route.positions ++ position ∷ [];
        stones = route.stones ++ get_or row position 0 ∷ [];
      } in
      let there : Contains job.routes longer = (is.listed.each longer).0 visits_longer in (
        there.0,
        record {
          route = longer;
          there = slice_get-get_or job.routes there.0 longer there.1 ∙ ap (λ (r : Route). Some r) there.2;
          from = refl;
          along = refl;
        },
      )

  -- the route along its positions goes on from the other
  pub goes_along : (k : ℕ) (longer : Route) → slice_get job.routes k ≡ Some longer → longer.source ≡ route.source
      → longer.positions ≡ route.positions ++ position ∷ [] → GoesOn route position longer
  goes_along k longer there source positions =
      let visits : Visits (graph_of job) longer.source longer.positions longer.stones =
      is_route_at (graph_of job) job.routes k longer is.listed there in
      let here : Visits (graph_of job) route.source (route.positions ++ position ∷ []) longer.stones =
      subst (λ (l : List ℕ). Visits (graph_of job) route.source l longer.stones) positions
      (subst (λ (n : ℕ). Visits (graph_of job) n longer.positions longer.stones) source visits) in
      record {
        stone = get_or row position 0;
        source = source;
        positions = positions;
        stones = visits_same (graph_of job) route.source (route.positions ++ position ∷ []) longer.stones
            (route.stones ++ get_or row position 0 ∷ []) here visits_longer;
      }

same_route : (r s : Route) → Some r ≡ Some s → r ≡ s
same_route r s same = cc

-- none of the routes so far is along the positions, nor is the next one
pub none_along : (job : JobShape) (source : ℕ) (positions : List ℕ) (number : ℕ) (route : Route) → slice_get job.routes number ≡ Some route
    → ((route.source ≡ source) × (route.positions ≡ positions) → ⊥)
    → ((k : ℕ) → k < number → IsAlong job source positions k → ⊥)
    → (k : ℕ) → k < number + 1 → IsAlong job source positions k → ⊥
none_along job source positions number route at not before k below along =
    ⊎_elim (λ e. let same : route ≡ along.route =
    same_route route along.route (sym at ∙ ap (slice_get job.routes) (sym e.1) ∙ along.there) in
    not (ap (λ (r : Route). r.source) same ∙ along.from, ap (λ (r : Route). r.positions) same ∙ along.along))
    (λ e. let apart = e.1 in before k (omega (arith, apart)) along) (eqb_tells k number)

-- an element of a list that is read as another one
pub element_at : (read listed : List Route) (number : ℕ) (route : Route) → read ≡ listed → number < length read
    → route ≡ get_or read number route → slice_get listed number ≡ Some route
element_at read listed number route same within is =
    ap (λ (l : List Route). slice_get l number) (sym same) ∙ slice_get-get_or read number route within
    ∙ ap (λ (r : Route). Some r) (sym is)
