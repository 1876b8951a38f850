-- The list of all routes has each of them once, in their order.
use Rattle.std.proofs.Common.{◌≡◌, ◌≢◌, ℕ, zero, suc, ◌+◌, ◌<◌, ◌≤◌, Some, List, [], ◌∷◌, ◌++◌, length, map, get_or, refl, sym, ap, subst}
use Rattle.std.proofs.Common.{inl, inr, arith}
use Rattle.std.specs.List.{AllByRecursion, Contains, flat_map, enumerate_from, slice_get}
use Rattle.std.proofs.lemmas.List.{append-nil}
use Rattle.std.proofs.lemmas.List.Elements.{All-from_recursion, All-contains}
use Rattle.evp_graph.specs.Shape.{Shape, targets_of, IsSound}
use Rattle.evp_graph.specs.Ways.{Way, step_to, ways}
use Rattle.evp_graph.specs.Routes.{Steps, Visits, IsRoute, Precedes, ComesBefore, Extends, ListsRoutes, route_along, routes_of}
use Rattle.evp_graph.specs.declared.route.Route.{Route}
use Rattle.evp_graph.proofs.Lists.{Ordered, Ordered-append, Ordered-map, Ordered-weaker, AllPairs-from_recursion, Each-weaker, Each-map}
use Rattle.evp_graph.proofs.Lists.{Each-always, Each-flat_map, Stands, Contains-flat_map}
use Rattle.evp_graph.proofs.Paths.{length-steps, Contains-from_get}

-- each way on from a stone is one of its steps
ways-are_steps : (targets : List (List ℕ)) (n a : ℕ) → AllByRecursion (λ w. Steps targets a w.positions w.stones) (ways targets n a)
ways-are_steps targets zero a = tt
ways-are_steps targets (suc n) a = (
  tt,
  Each-flat_map (λ w. Steps targets a w.positions w.stones) (λ e. map (step_to e.0 e.1) (ways targets n e.1)) 0 (targets_of targets a)
      (λ q b s. Each-map (λ w. Steps targets a w.positions w.stones) (step_to q b) (ways targets n b)
      (Each-weaker (λ w. Steps targets b w.positions w.stones) (λ w. Steps targets a (q ∷ w.positions) (b ∷ w.stones))
      (λ w h. (at_number s, h)) (ways targets n b) (ways-are_steps targets n b))),
)
  where
    at_number : {q b : ℕ} → Stands 0 (targets_of targets a) q b → slice_get (targets_of targets a) q ≡ Some b
    at_number {q} {b} s = let P : ℕ → Type 0 = λ k. slice_get (targets_of targets a) k ≡ Some b in
        subst P (let e : s.place ≡ q = omega (arith, s.number) in e) s.there

Contains-map : {X Y : Type 0} (f : X → Y) (xs : List X) (x : X) → Contains xs x → Contains (map f xs) (f x)
Contains-map f [] x h = absurd (omega (arith, h.1))
Contains-map f (y ∷ xs) x h = at_place (Contains-map f xs x) h.0 h.1 h.2
  where
    at_place : (Contains xs x → Contains (map f xs) (f x)) → (k : ℕ) → k < length (y ∷ xs) → get_or (y ∷ xs) k x ≡ x
        → Contains (map f (y ∷ xs)) (f x)
    at_place later zero lt e = (0, omega arith, ap f e)
    at_place later (suc k) lt e = let c = later (k, omega arith, e) in (suc c.0, omega (arith, c.1), c.2)

-- each of its steps is one of the ways, if the bound is above their number
steps-are_ways : (targets : List (List ℕ)) (n a : ℕ) (positions stones : List ℕ) → Steps targets a positions stones → length stones < n
    → Contains (ways targets n a) (record { positions = positions; stones = stones })
steps-are_ways targets zero a positions stones s lt = absurd (omega arith)
steps-are_ways targets (suc n) a [] [] s lt = (0, omega arith, refl)
steps-are_ways targets (suc n) a [] (b ∷ stones) s lt = absurd s
steps-are_ways targets (suc n) a (p ∷ positions) [] s lt = absurd s
steps-are_ways targets (suc n) a (p ∷ positions) (b ∷ stones) s lt =
    let way : Way = record { positions = positions; stones = stones } in
    let on = Contains-map (step_to p b) (ways targets n b) way (steps-are_ways targets n b positions stones s.1 (omega arith)) in
    let c = Contains-flat_map (λ e. map (step_to e.0 e.1) (ways targets n e.1)) 0 (targets_of targets a) p b p (step_to p b way)
    (omega arith) s.0 on in
    (suc c.0, omega (arith, c.1), c.2)

routes-are_routes : (graph : Shape) → AllByRecursion (IsRoute graph) (routes_of graph)
routes-are_routes graph =
    Each-flat_map (IsRoute graph) (λ e. map (route_along e.0 e.1) (ways graph.targets (length graph.targets) e.1)) 0 graph.sources
    (λ q a s. Each-map (IsRoute graph) (route_along q a) (ways graph.targets (length graph.targets) a)
    (Each-weaker (λ w. Steps graph.targets a w.positions w.stones) (λ w. IsRoute graph (route_along q a w)) (λ w h. (at_number s, h))
    (ways graph.targets (length graph.targets) a) (ways-are_steps graph.targets (length graph.targets) a)))
  where
    at_number : {q b : ℕ} → Stands 0 graph.sources q b → slice_get graph.sources q ≡ Some b
    at_number {q} {b} s = let P : ℕ → Type 0 = λ k. slice_get graph.sources k ≡ Some b in
        subst P (let e : s.place ≡ q = omega (arith, s.number) in e) s.there

each_is_listed : (graph : Shape) → IsSound graph → (source : ℕ) (positions stones : List ℕ) → Visits graph source positions stones
    → Contains (routes_of graph) (record { source = source; positions = positions; stones = stones })
each_is_listed graph sound source positions [] v = absurd v
each_is_listed graph sound source positions (first ∷ others) v =
    let n = length graph.targets in
    let within : first < n = All-contains (λ s. s < n) graph.sources first sound.sources
    (Contains-from_get graph.sources source first v.0) in
    let short = length-steps graph.targets sound.targets sound.acyclic first positions others within v.1 in
    let way : Way = record { positions = positions; stones = others } in
    let on = Contains-map (route_along source first) (ways graph.targets n first) way
    (steps-are_ways graph.targets n first positions others v.1 short) in
    Contains-flat_map (λ e. map (route_along e.0 e.1) (ways graph.targets n e.1)) 0 graph.sources source first source
    (route_along source first way) (omega arith) v.0 on

-- the first number of the list is q
abbrev pub StartsWith : ℕ → List ℕ → Type 0
StartsWith q [] = ⊥
StartsWith q (x ∷ xs) = x ≡ q

abbrev pub StartsFrom : ℕ → List ℕ → Type 0
StartsFrom p [] = ⊥
StartsFrom p (x ∷ xs) = p ≤ x

starts_before : (q p : ℕ) → q < p → (xs ys : List ℕ) → StartsWith q xs → StartsFrom p ys → Precedes xs ys
starts_before q p lt [] ys h k = absurd h
starts_before q p lt (x ∷ xs) [] h k = absurd k
starts_before q p lt (x ∷ xs) (y ∷ ys) h k = inl (omega arith)

-- pieces by number, each in order and begun by its number, are in order one behind the other
module _ {X : Type 0} (key : X → List ℕ) (F : ℕ × ℕ → List X) (starts : (q b : ℕ)
    → AllByRecursion (λ x. StartsWith q (key x)) (F (q, b))) (within : (q b : ℕ)
    → Ordered (λ x y. Precedes (key x) (key y)) (F (q, b))) where
  from_on : (p q b : ℕ) → p ≤ q → AllByRecursion (λ x. StartsFrom p (key x)) (F (q, b))
  from_on p q b le = Each-weaker (λ x. StartsWith q (key x)) (λ x. StartsFrom p (key x)) (λ x h. weaker (key x) h) (F (q, b)) (starts q b)
    where
      weaker : (xs : List ℕ) → StartsWith q xs → StartsFrom p xs
      weaker [] h = absurd h
      weaker (x ∷ xs) h = omega arith

  pub Ordered-pieces : (p : ℕ) (row : List ℕ) → Ordered (λ x y. Precedes (key x) (key y)) (flat_map F (enumerate_from p row))
  Ordered-pieces p [] = tt
  Ordered-pieces p (b ∷ row) =
      let later : AllByRecursion (λ y. StartsFrom (p + 1) (key y)) (flat_map F (enumerate_from (p + 1) row)) = Each-flat_map
      (λ y. StartsFrom (p + 1) (key y)) F (p + 1) row (λ q c s. from_on (p + 1) q c (omega (arith, s.number))) in
      Ordered-append (λ x y. Precedes (key x) (key y)) (F (p, b)) (flat_map F (enumerate_from (p + 1) row)) (within p b)
      (Ordered-pieces (p + 1) row)
      (Each-weaker (λ x. StartsWith p (key x))
      (λ x. AllByRecursion (λ y. Precedes (key x) (key y)) (flat_map F (enumerate_from (p + 1) row)))
      (λ x h. Each-weaker (λ y. StartsFrom (p + 1) (key y)) (λ y. Precedes (key x) (key y))
      (λ y k. starts_before p (p + 1) (omega arith) (key x) (key y) h k) (flat_map F (enumerate_from (p + 1) row)) later) (F (p, b))
      (starts p b))

ways-ordered : (targets : List (List ℕ)) (n a : ℕ) → Ordered (λ v w. Precedes v.positions w.positions) (ways targets n a)
ways-ordered targets zero a = tt
ways-ordered targets (suc n) a =
    let F : ℕ × ℕ → List Way = λ e. map (step_to e.0 e.1) (ways targets n e.1) in
    let starts : (q b : ℕ) → AllByRecursion (λ w. StartsWith q w.positions) (F (q, b)) = λ q b. Each-map (λ w. StartsWith q w.positions)
    (step_to q b) (ways targets n b) (Each-always (λ w. q ≡ q) (λ w. refl) (ways targets n b)) in
    let within : (q b : ℕ) → Ordered (λ v w. Precedes v.positions w.positions) (F (q, b)) = λ q b. Ordered-map
    (λ v w. Precedes v.positions w.positions) (step_to q b) (ways targets n b)
    (Ordered-weaker (λ v w. Precedes v.positions w.positions) (λ v w. Precedes (q ∷ v.positions) (q ∷ w.positions))
    (λ v w h. inr (refl, h)) (ways targets n b) (ways-ordered targets n b)) in (
      Each-flat_map (λ w. Precedes [] w.positions) F 0 (targets_of targets a)
          (λ q b s. Each-map (λ w. Precedes [] w.positions) (step_to q b) (ways targets n b)
          (Each-always (λ w. Unit {0}) (λ w. tt) (ways targets n b))),
      Ordered-pieces (λ w. w.positions) F starts within 0 (targets_of targets a),
    )

routes-ordered : (graph : Shape) → Ordered ComesBefore (routes_of graph)
routes-ordered graph =
    let n = length graph.targets in
    let F : ℕ × ℕ → List Route = λ e. map (route_along e.0 e.1) (ways graph.targets n e.1) in
    let starts : (q b : ℕ) → AllByRecursion (λ r. StartsWith q (r.source ∷ r.positions)) (F (q, b)) = λ q b. Each-map
    (λ r. StartsWith q (r.source ∷ r.positions)) (route_along q b) (ways graph.targets n b)
    (Each-always (λ w. q ≡ q) (λ w. refl) (ways graph.targets n b)) in
    let within : (q b : ℕ) → Ordered ComesBefore (F (q, b)) = λ q b. Ordered-map ComesBefore (route_along q b) (ways graph.targets n b)
    (Ordered-weaker (λ v w. Precedes v.positions w.positions) (λ v w. Precedes (q ∷ v.positions) (q ∷ w.positions))
    (λ v w h. inr (refl, h)) (ways graph.targets n b) (ways-ordered graph.targets n b)) in
    Ordered-pieces (λ r. r.source ∷ r.positions) F starts within 0 graph.sources

-- no list goes before one that it goes on from, nor before itself
Precedes-not_longer : (xs more : List ℕ) → Precedes (xs ++ more) xs → ⊥
Precedes-not_longer [] [] h = h
Precedes-not_longer [] (y ∷ more) h = h
Precedes-not_longer (x ∷ xs) more (inl lt) = omega arith
Precedes-not_longer (x ∷ xs) more (inr h) = Precedes-not_longer xs more h.1

apart : (r s : Route) → ComesBefore r s → r ≢ s
apart r s h e =
    let P : Route → Type 0 = λ x. Precedes (x.source ∷ x.positions) (s.source ∷ s.positions) in
    let Q : List ℕ → Type 0 = λ l. Precedes l (s.source ∷ s.positions) in
    Precedes-not_longer (s.source ∷ s.positions) [] (subst Q (sym (append-nil (s.source ∷ s.positions))) (subst P e h))

not_extended : (r s : Route) → ComesBefore r s → Extends r s → ⊥
not_extended r s h e =
    let Q : List ℕ → Type 0 = λ l. Precedes l (s.source ∷ s.positions) in
    let longer : r.source ∷ r.positions ≡ (s.source ∷ s.positions) ++ e.1 ∷ e.2 = (let number : r.source ≡ s.source = e.0 in
    let positions : r.positions ≡ s.positions ++ e.1 ∷ e.2 = e.3 in cc) in
    Precedes-not_longer (s.source ∷ s.positions) (e.1 ∷ e.2) (subst Q longer h)

pub ListsRoutes-routes_of : (graph : Shape) → IsSound graph → ListsRoutes graph (routes_of graph)
ListsRoutes-routes_of graph sound = record {
  each = λ r. (
    λ h. each_is_listed graph sound r.source r.positions r.stones h,
    λ c. All-contains (IsRoute graph) (routes_of graph) r
        (All-from_recursion (IsRoute graph) (routes_of graph) (routes-are_routes graph)) c,
  );
  once = AllPairs-from_recursion ◌≢◌ (routes_of graph) (Ordered-weaker ComesBefore ◌≢◌ apart (routes_of graph) (routes-ordered graph));
  ordered = AllPairs-from_recursion ComesBefore (routes_of graph) (routes-ordered graph);
  before_extensions = AllPairs-from_recursion (λ r s. Extends r s
      → ⊥) (routes_of graph) (Ordered-weaker ComesBefore (λ r s. Extends r s → ⊥) not_extended (routes_of graph) (routes-ordered graph));
}
