-- Routes of a job and the targets of its stones: a route that goes on does so by a target, and each has the shorter one.
use Rattle.std.proofs.Common.{◌≡◌, ◌⊎◌, ℕ, ◌+◌, ◌<◌, List, [], ◌∷◌, ◌++◌, length, get_or, Some, refl, sym, ap, subst, ◌∙◌, inl, inr}
use Rattle.std.proofs.Common.{⊎_elim, arith}
use Rattle.std.proofs.Common.{length-append}
use Rattle.std.proofs.lemmas.List.{length-map}
use Rattle.std.proofs.lemmas.Option.{slice_get-get_or, slice_get_within, get_or_from_slice_get}
use Rattle.std.specs.List.{slice_get, Contains}
use Rattle.evp_graph.specs.declared.route.Route.{Route}
use Rattle.evp_graph.specs.Routes.{Visits, Steps, Precedes, ComesBefore}
use Rattle.evp_graph.specs.Shape.{Shape, targets_of}
use Rattle.evp_stone.specs.declared.source.Source.{Source}
use Rattle.evp_stone.specs.Job.{IsJob}
use Rattle.evp_stone.specs.JobShape.{JobShape, graph_of}
use Rattle.evp_stone.specs.Opening.{GoesOnFrom}
use Rattle.evp_stone.specs.Route.{last_of, last_stone}
use Rattle.evp_stone.specs.State.{GoesOn}
use Rattle.evp_stone.proofs.JobFacts.{ends_at}
use Rattle.evp_stone.proofs.Longer.{last_is}
use Rattle.evp_stone.proofs.Routes.{is_route_at}

-- the last of several steps is by a target of the stone before
steps_edge : (targets : List (List ℕ)) (a : ℕ) (positions : List ℕ) (position : ℕ) (stones : List ℕ) (stone : ℕ)
    → Steps targets a (positions ++ position ∷ []) (stones ++ stone ∷ []) → length stones ≡ length positions
    → Steps targets a positions stones × (slice_get (targets_of targets (last_of (a ∷ stones))) position ≡ Some stone)
steps_edge targets a [] position [] stone s same = (tt, s.0)
steps_edge targets a [] position (b ∷ stones) stone s same = absurd (omega arith)
steps_edge targets a (p ∷ positions) position [] stone s same = absurd (omega arith)
steps_edge targets a (p ∷ positions) position (b ∷ stones) stone s same =
    let more = steps_edge targets b positions position stones stone s.1 (omega arith) in
    ((s.0, more.0), more.1)

visits_edge : (graph : Shape) (source : ℕ) (positions : List ℕ) (position : ℕ) (stones : List ℕ) (stone : ℕ)
    → Visits graph source (positions ++ position ∷ []) (stones ++ stone ∷ []) → length stones ≡ length positions + 1
    → Visits graph source positions stones × (slice_get (targets_of graph.targets (last_of stones)) position ≡ Some stone)
visits_edge graph source positions position [] stone v same = absurd (omega arith)
visits_edge graph source positions position (first ∷ others) stone v same =
    let more = steps_edge graph.targets first positions position others stone v.1 (omega arith) in
    ((v.0, more.0), more.1)

-- a list that isn't empty is its front and its last
snoc_of : (xs : List ℕ) → 0 < length xs → (front : List ℕ) × (last : ℕ) × (xs ≡ front ++ last ∷ [])
snoc_of [] some = absurd (omega arith)
snoc_of (x ∷ []) some = ([], x, refl)
snoc_of (x ∷ y ∷ xs) some = let more = snoc_of (y ∷ xs) (omega arith) in (x ∷ more.0, more.1, ap (λ (l : List ℕ). x ∷ l) more.2)

not_before_itself : (xs : List ℕ) → Precedes xs xs → ⊥
not_before_itself [] before = before
not_before_itself (x ∷ xs) before = ⊎_elim (λ less. absurd (omega (arith, less))) (λ more. not_before_itself xs more.1) before

not_before : (xs ys : List ℕ) → xs ≡ ys → Precedes xs ys → ⊥
not_before xs ys same before = not_before_itself ys (subst (λ (l : List ℕ). Precedes l ys) same before)

module _ (job : JobShape) (is : IsJob job) where
  abbrev targets : List (List ℕ)
  targets = (graph_of job).targets

  visits : (number : ℕ) (route : Route) → slice_get job.routes number ≡ Some route
      → Visits (graph_of job) route.source route.positions route.stones
  visits number route at = is_route_at (graph_of job) job.routes number route is.listed at

  -- a source and positions are of one route: routes are listed in order
  pub same_number : (number other : ℕ) (route like : Route) → slice_get job.routes number ≡ Some route
      → slice_get job.routes other ≡ Some like → like.source ≡ route.source → like.positions ≡ route.positions → other ≡ number
  same_number number other route like at there source positions =
      let key : like.source ∷ like.positions ≡ route.source ∷ route.positions =
      ap (λ (n : ℕ). n ∷ like.positions) source ∙ ap (λ (l : List ℕ). route.source ∷ l) positions in
      let one = get_or_from_slice_get job.routes number route route at in
      let two = get_or_from_slice_get job.routes other like route there in
      let before : number < other → ⊥ = λ below. not_before (route.source ∷ route.positions) (like.source ∷ like.positions) (sym key)
      (subst (λ (r : Route). ComesBefore route r) two
      (subst (λ (r : Route). ComesBefore r (get_or job.routes other route)) one
      (is.listed.ordered number other route below (slice_get_within job.routes other like there)))) in
      let behind : other < number → ⊥ = λ below. not_before (like.source ∷ like.positions) (route.source ∷ route.positions) key
      (subst (λ (r : Route). ComesBefore like r) one
      (subst (λ (r : Route). ComesBefore r (get_or job.routes number route)) two
      (is.listed.ordered other number route below (slice_get_within job.routes number route at)))) in
      omega (arith, before, behind)

  source_within : (source : ℕ) (positions stones : List ℕ) → Visits (graph_of job) source positions stones → source < length job.sources
  source_within source positions [] v = absurd v
  source_within source positions (first ∷ others) v =
      let within = slice_get_within (graph_of job).sources source first v.0 in
      let same = length-map job.sources (λ (s : Source). s.stone) in omega arith

  -- a route begins at a source
  pub source_below : (number : ℕ) (route : Route) → slice_get job.routes number ≡ Some route → route.source < length job.sources
  source_below number route at = source_within route.source route.positions route.stones (visits number route at)

  -- the route goes on by a target
  pub goes_edge : (number at : ℕ) (route longer : Route) (position : ℕ) → slice_get job.routes at ≡ Some route
      → slice_get job.routes number ≡ Some longer → GoesOn route position longer
      → slice_get (targets_of targets (last_stone route)) position ≡ Some (last_stone longer)
  goes_edge number at route longer position here there on =
      let ends = ends_at job is at route here in
      let v = subst (λ (l : List ℕ). Visits (graph_of job) longer.source l (route.stones ++ on.stone ∷ [])) on.positions
      (subst (λ (l : List ℕ). Visits (graph_of job) longer.source longer.positions l) on.stones (visits number longer there)) in
      (visits_edge (graph_of job) longer.source route.positions position route.stones on.stone v ends.ends).1
      ∙ ap Some (sym (last_is job route ends position longer on))

  shorter : (number : ℕ) (longer : Route) → slice_get job.routes number ≡ Some longer → 0 < length longer.positions
      → (stone : ℕ) × GoesOnFrom job stone longer
  shorter number longer at some =
      let ends = (ends_at job is number longer at).ends in
      let p = snoc_of longer.positions some in
      let s = snoc_of longer.stones (omega arith) in
      let one = simp length-append at (ap length p.2) in
      let two = simp length-append at (ap length s.2) in
      let v = subst (λ (l : List ℕ). Visits (graph_of job) longer.source l (s.0 ++ s.1 ∷ [])) p.2
      (subst (λ (l : List ℕ). Visits (graph_of job) longer.source longer.positions l) s.2 (visits number longer at)) in
      let front = visits_edge (graph_of job) longer.source p.0 p.1 s.0 s.1 v (omega arith) in
      let route : Route = record { source = longer.source; positions = p.0; stones = s.0 } in
      let there : Contains job.routes route = (is.listed.each route).0 front.0 in (
        last_stone route,
        record {
          number = there.0;
          route = route;
          there = slice_get-get_or job.routes there.0 route there.1 ∙ ap Some there.2;
          last = refl;
          position = p.1;
          goes_on = record { stone = s.1; source = refl; positions = p.2; stones = s.2 };
        },
      )

  -- a route is a source's first, or goes on from a shorter one
  pub first_or_longer : (number : ℕ) (route : Route) → slice_get job.routes number ≡ Some route
      → (route.positions ≡ []) ⊎ ((stone : ℕ) × GoesOnFrom job stone route)
  first_or_longer number route at =
      ⊎_elim inl (λ some. inr (shorter number route at some)) (empty_or route.positions)
    where
      empty_or : (xs : List ℕ) → (xs ≡ []) ⊎ (0 < length xs)
      empty_or [] = inl refl
      empty_or (x ∷ xs) = inr (omega arith)
