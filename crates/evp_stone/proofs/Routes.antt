-- Routes: their steps, and the shorter routes that they extend.
use Rattle.std.proofs.Common.{◌≡◌, ℕ, zero, suc, ◌+◌, ◌<◌, ◌≤◌, List, [], ◌∷◌, length, map, take, get_or, Some, refl, ap, ◌∙◌, arith}
use Rattle.std.proofs.Common.{add-one}
use Rattle.std.proofs.lemmas.List.{take_all}
use Rattle.std.proofs.lemmas.Option.{slice_get_within, get_or_from_slice_get}
use Rattle.std.specs.List.{zip, slice_get, Contains}
use Rattle.evp_graph.specs.declared.route.Route.{Route}
use Rattle.evp_graph.specs.Routes.{IsRoute, Visits, Steps, ListsRoutes}
use Rattle.evp_graph.specs.Shape.{Shape}
use Rattle.evp_stone.specs.Rounds.{Step}
use Rattle.evp_stone.specs.Route.{last_of, last_stone, steps_of, cut}

abbrev pub step_of : ℕ × ℕ → Step
step_of p = record { stone = p.0; position = p.1 }

abbrev pub steps : List ℕ → List ℕ → List Step
steps stones positions = map step_of (zip stones positions)

pub steps-cut : (stones positions : List ℕ) (k : ℕ) → length stones ≡ length positions + 1 → k ≤ length positions
    → steps (take (suc k) stones) (take k positions) ≡ take k (steps stones positions)
steps-cut [] positions k same within = absurd (omega arith)
steps-cut (s ∷ stones) positions zero same within = refl
steps-cut (s ∷ stones) [] (suc k) same within = absurd (omega arith)
steps-cut (s ∷ stones) (p ∷ positions) (suc k) same within =
    ap (λ (l : List Step). step_of (s, p) ∷ l) (steps-cut stones positions k (omega arith) (omega arith))

pub length-steps : (stones positions : List ℕ) → length stones ≡ length positions + 1 → length (steps stones positions) ≡ length positions
length-steps [] positions same = absurd (omega arith)
length-steps (s ∷ stones) [] same = refl
length-steps (s ∷ stones) (p ∷ positions) same = ap suc (length-steps stones positions (omega arith))

pub last-cut : (stones positions : List ℕ) (k : ℕ) (d : Step) → length stones ≡ length positions + 1 → k < length positions
    → last_of (take (suc k) stones) ≡ (get_or (steps stones positions) k d).stone
last-cut [] positions k d same within = absurd (omega arith)
last-cut (s ∷ stones) [] k d same within = absurd (omega arith)
last-cut (s ∷ stones) (p ∷ positions) zero d same within = refl
last-cut (s ∷ []) (p ∷ positions) (suc k) d same within = absurd (omega arith)
last-cut (s ∷ t ∷ stones) (p ∷ positions) (suc k) d same within = last-cut (t ∷ stones) positions k d (omega arith) (omega arith)

-- a route has one stone more than positions
pub record HasEnds (route : Route) : Type 0 where
  pub ends : length route.stones ≡ length route.positions + 1

steps-length : (targets : List (List ℕ)) (a : ℕ) (positions stones : List ℕ) → Steps targets a positions stones
    → length stones ≡ length positions
steps-length targets a [] [] s = refl
steps-length targets a [] (b ∷ stones) s = absurd s
steps-length targets a (p ∷ positions) [] s = absurd s
steps-length targets a (p ∷ positions) (b ∷ stones) s = ap suc (steps-length targets b positions stones s.1)

visits-length : (graph : Shape) (source : ℕ) (positions stones : List ℕ) → Visits graph source positions stones
    → length stones ≡ length positions + 1
visits-length graph source positions [] v = absurd v
visits-length graph source positions (first ∷ others) v =
    let same = steps-length graph.targets first positions others v.1 in omega arith

pub has_ends : (graph : Shape) (route : Route) → IsRoute graph route → HasEnds route
has_ends graph route is = record { ends = visits-length graph route.source route.positions route.stones is }

pub is_route_at : (graph : Shape) (list : List Route) (number : ℕ) (route : Route) → ListsRoutes graph list
    → slice_get list number ≡ Some route → IsRoute graph route
is_route_at graph list number route lists at =
    let there : Contains list route = (number, slice_get_within list number route at, get_or_from_slice_get list number route route at) in
    (lists.each route).1 there

module _ (route : Route) (ends : HasEnds route) where
  pub steps_of-cut : (k : ℕ) → k ≤ length route.positions → steps_of (cut k route) ≡ take k (steps_of route)
  steps_of-cut k within =
      ap (λ (n : ℕ). steps (take n route.stones) (take k route.positions)) (add-one k)
      ∙ steps-cut route.stones route.positions k ends.ends within

  pub length-steps_of : length (steps_of route) ≡ length route.positions
  length-steps_of = length-steps route.stones route.positions ends.ends

  pub last_stone-cut : (k : ℕ) (d : Step) → k < length route.positions
      → last_stone (cut k route) ≡ (get_or (steps_of route) k d).stone
  last_stone-cut k d within =
      ap (λ (n : ℕ). last_of (take n route.stones)) (add-one k) ∙ last-cut route.stones route.positions k d ends.ends within

  pub cut_whole : cut (length route.positions) route ≡ route
  cut_whole =
      let n = length route.positions in
      let long : length route.stones ≤ n + 1 = let e = ends.ends in omega arith in
      let positions = take_all n route.positions (omega arith) in
      let stones = take_all (n + 1) route.stones long in
      ap (λ (l : List ℕ). record { source = route.source; positions = l; stones = take (n + 1) route.stones }) positions
      ∙ ap (λ (l : List ℕ). record { source = route.source; positions = route.positions; stones = l }) stones
