-- The ways on from a stone: that their bound cuts none, and what is still to be listed behind a route.
use Rattle.std.proofs.Common.{◌≡◌, ℕ, zero, suc, ◌+◌, ◌<◌, ◌≤◌, List, [], ◌∷◌, ◌++◌, length, map, reverse, append_assoc, refl, sym, ap, ◌∙◌}
use Rattle.std.proofs.Common.{subst, arith, length-append}
use Rattle.std.specs.List.{AllByRecursion, flat_map, enumerate_from}
use Rattle.std.proofs.lemmas.List.{append-nil, reverse-append, map-append, reverse-reverse, length-reverse}
use Rattle.std.proofs.lemmas.Simd.{map-map}
use Rattle.std.proofs.lemmas.List.Concat.{flat_map-append}
use Rattle.std.proofs.lemmas.List.Elements.{recursion_from_All}
use Rattle.std.proofs.lemmas.List.Folds.{flat_map-map}
use Rattle.evp_graph.specs.Shape.{Shape, targets_of, IsAcyclic, HaveTargets, IsSound}
use Rattle.evp_graph.specs.Ways.{Way, stay, step_to, ways}
use Rattle.evp_graph.specs.Routes.{Steps, routes_of}
use Rattle.evp_graph.specs.Ahead.{continued, extension, extensions, first_route, starts}
use Rattle.evp_graph.specs.declared.route.Route.{Route}
use Rattle.evp_graph.specs.declared.listing.Ahead.{Ahead}
use Rattle.evp_graph.proofs.Lists.{same_pieces, Each-append, length-enumerated}
use Rattle.evp_graph.proofs.Paths.{length-steps}

-- a bound above the length of each way cuts none
pub ways-more : (targets : List (List ℕ)) (steps a : ℕ)
    → ((positions stones : List ℕ) → Steps targets a positions stones → length stones < steps)
    → ways targets (suc steps) a ≡ ways targets steps a
ways-more targets zero a short = absurd (let k : 0 < 0 = short [] [] tt in omega arith)
ways-more targets (suc steps) a short =
    ap (λ l. stay ∷ l) (same_pieces (λ e. map (step_to e.0 e.1) (ways targets (suc steps) e.1))
    (λ e. map (step_to e.0 e.1) (ways targets steps e.1)) 0 (targets_of targets a)
    (λ q b s. ap (map (step_to q b))
    (ways-more targets steps b
    (λ positions stones w. (let k : length (b ∷ stones) < suc steps = short (s.place ∷ positions) (b ∷ stones) (s.there, w) in
    omega arith)))))

-- the routes on from a route that is still to be listed, itself first
abbrev pub onward : List (List ℕ) → ℕ → Ahead → List Route
onward targets steps ahead = map (continued ahead.route) (ways targets steps ahead.stone)

-- to go on by a step and then a way is to go on by both
continued-step : (r : Route) (p b : ℕ) (way : Way) → continued r (step_to p b way) ≡ continued (extension r p b) way
continued-step r p b way =
    let positions : r.positions ++ p ∷ way.positions
    ≡ (r.positions ++ p ∷ []) ++ way.positions = sym (append_assoc r.positions (p ∷ []) way.positions) in
    let stones : r.stones ++ b ∷ way.stones ≡ (r.stones ++ b ∷ []) ++ way.stones = sym (append_assoc r.stones (b ∷ []) way.stones) in
    λ i. record { source = r.source; positions = positions i; stones = stones i }

continued-stay : (r : Route) → continued r stay ≡ r
continued-stay r =
    let positions = append-nil r.positions in
    let stones = append-nil r.stones in
    λ i. record { source = r.source; positions = positions i; stones = stones i }

map-same : {X Y : Type 0} (f g : X → Y) → ((x : X) → f x ≡ g x) → (xs : List X) → map f xs ≡ map g xs
map-same f g e [] = refl
map-same f g e (x ∷ xs) = λ i. e x i ∷ map-same f g e xs i

map-flat_map : {X Y Z : Type 0} (f : Y → Z) (g : X → List Y) (xs : List X) → map f (flat_map g xs) ≡ flat_map (λ x. map f (g x)) xs
map-flat_map f g [] = refl
map-flat_map f g (x ∷ xs) = map-append f (g x) (flat_map g xs) ∙ ap (λ l. map f (g x) ++ l) (map-flat_map f g xs)

-- a route comes first, and then what goes on from its extensions
pub onward-step : (targets : List (List ℕ)) → HaveTargets targets → IsAcyclic targets → (r : Route) (a : ℕ) → a < length targets
    → onward targets (length targets) (record { route = r; stone = a })
    ≡ r ∷ flat_map (onward targets (length targets)) (extensions r (targets_of targets a))
onward-step targets have acyclic r a lt =
    let n = length targets in
    let row = targets_of targets a in
    let more : ways targets (suc n) a
    ≡ ways targets n a = ways-more targets n a (λ positions stones w. length-steps targets have acyclic a positions stones lt w) in
    let F : ℕ × ℕ → List Way = λ e. map (step_to e.0 e.1) (ways targets n e.1) in
    let E : ℕ × ℕ → Ahead = λ e. record { route = extension r e.0 e.1; stone = e.1 } in
    let pieces : map (continued r) (flat_map F (enumerate_from 0 row))
    ≡ flat_map (λ e. map (continued r) (F e)) (enumerate_from 0 row) = map-flat_map (continued r) F (enumerate_from 0 row) in
    let steps : flat_map (λ e. map (continued r) (F e)) (enumerate_from 0 row)
    ≡ flat_map (λ e. onward targets n (E e)) (enumerate_from 0 row) =
    same_pieces (λ e. map (continued r) (F e)) (λ e. onward targets n (E e)) 0 row
    (λ q b s. map-map (continued r) (step_to q b) (ways targets n b)
    ∙ map-same (λ w. continued r (step_to q b w)) (continued (extension r q b)) (continued-step r q b) (ways targets n b)) in
    let joined : flat_map (onward targets n) (map E (enumerate_from 0 row))
    ≡ flat_map (λ e. onward targets n (E e)) (enumerate_from 0 row) = flat_map-map (onward targets n) E (enumerate_from 0 row) in
    ap (map (continued r)) (sym more) ∙ ap (λ x. x ∷ map (continued r) (flat_map F (enumerate_from 0 row))) (continued-stay r)
    ∙ ap (λ l. r ∷ l) (pieces ∙ steps ∙ sym joined)

-- all routes are those on from the sources' stones
pub routes_of-starts : (graph : Shape) → flat_map (onward graph.targets (length graph.targets)) (starts graph.sources) ≡ routes_of graph
routes_of-starts graph = flat_map-map (onward graph.targets (length graph.targets))
    (λ e. record { route = first_route e.0 e.1; stone = e.1 }) (enumerate_from 0 graph.sources)

-- from each that is still to be listed there is one route or more
length-onward : (targets : List (List ℕ)) (ahead : List Ahead) → AllByRecursion (λ a. a.stone < length targets) ahead
    → length ahead ≤ length (flat_map (onward targets (length targets)) ahead)
length-onward targets [] within = omega arith
length-onward targets (a ∷ ahead) within =
    let rest = length-onward targets ahead within.1 in
    let e = length-append (onward targets (length targets) a) (flat_map (onward targets (length targets)) ahead) in
    let lt : a.stone < length targets = within.0 in
    let m = one (length targets) (omega arith) in
    omega arith
  where
    one : (n : ℕ) → 0 < n → 0 < length (onward targets n a)
    one zero h = absurd (omega arith)
    one (suc n) h = omega arith

-- the list so far and what goes on from those ahead, the next one first, are all routes
pub record Listing (graph : Shape) (list : List Route) (ahead : List Ahead) : Type 0 where
  pub sound : IsSound graph
  pub within : AllByRecursion (λ a. a.stone < length graph.targets) ahead
  pub all : list ++ flat_map (onward graph.targets (length graph.targets)) ahead ≡ routes_of graph

entries_within : (n : ℕ) (f : ℕ × ℕ → Ahead) → ((q b : ℕ) → b < n → (f (q, b)).stone < n) → (p : ℕ) (row : List ℕ)
    → AllByRecursion (λ b. b < n) row → AllByRecursion (λ a. a.stone < n) (map f (enumerate_from p row))
entries_within n f h p [] all = tt
entries_within n f h p (b ∷ row) all = (h p b all.0, entries_within n f h (p + 1) row all.1)

pub Listing-first : (graph : Shape) → IsSound graph → Listing graph [] (starts graph.sources)
Listing-first graph sound = record {
  sound = sound;
  within = entries_within (length graph.targets) (λ e. record { route = first_route e.0 e.1; stone = e.1 }) (λ q b lt. lt) 0 graph.sources
      (recursion_from_All (λ b. b < length graph.targets) graph.sources sound.sources);
  all = routes_of-starts graph;
}

pub Listing-step : (graph : Shape) (list : List Route) (r : Route) (a : ℕ) (ahead : List Ahead)
    → Listing graph list (record { route = r; stone = a } ∷ ahead)
    → Listing graph (list ++ r ∷ []) (extensions r (targets_of graph.targets a) ++ ahead)
Listing-step graph list r a ahead h =
    let n = length graph.targets in
    let lt : a < n = h.within.0 in
    let row = targets_of graph.targets a in
    let on = onward graph.targets n in
    let more = extensions r row in
    let split : on (record { route = r; stone = a })
    ≡ r ∷ flat_map on more = onward-step graph.targets h.sound.targets h.sound.acyclic r a lt in
    let joined : flat_map on (more ++ ahead) ≡ flat_map on more ++ flat_map on ahead = flat_map-append on more ahead in
    let rest = flat_map on ahead in
    record {
      sound = h.sound;
      within = Each-append (λ x. x.stone < n) more ahead
          (entries_within n (λ e. record { route = extension r e.0 e.1; stone = e.1 }) (λ q b l. l) 0 row
          (recursion_from_All (λ b. b < n) row (h.sound.targets a [] lt))) h.within.1;
      all = append_assoc list (r ∷ []) (flat_map on (more ++ ahead)) ∙ ap (λ l. list ++ r ∷ l) joined
          ∙ ap (λ l. list ++ (l ++ rest)) (sym split) ∙ h.all;
    }

-- there are as many routes as are listed and ahead, or more
pub length-Listing : (graph : Shape) (list : List Route) (ahead : List Ahead) → Listing graph list ahead
    → length list + length ahead ≤ length (routes_of graph)
length-Listing graph list ahead h =
    let rest = flat_map (onward graph.targets (length graph.targets)) ahead in
    omega (arith, length-onward graph.targets ahead h.within, length-append list rest, ap length h.all)

-- where none is ahead the list has all routes
pub Listing-end : (graph : Shape) (list : List Route) → Listing graph list [] → list ≡ routes_of graph
Listing-end graph list h = sym (append-nil list) ∙ h.all

pub length-extensions : (r : Route) (row : List ℕ) → length (extensions r row) ≡ length row
length-extensions r row = length-enumerated (λ e. record { route = extension r e.0 e.1; stone = e.1 }) 0 row

pub length-starts : (sources : List ℕ) → length (starts sources) ≡ length sources
length-starts sources = length-enumerated (λ e. record { route = first_route e.0 e.1; stone = e.1 }) 0 sources

-- the next one is taken off the list that has the next last
pub Listing-popped : (graph : Shape) (list : List Route) (items rest : List Ahead) (next : Ahead) → Listing graph list (reverse items)
    → items ≡ rest ++ next ∷ [] → Listing graph list (next ∷ reverse rest)
Listing-popped graph list items rest next h e =
    let P : List Ahead → Type 0 = λ l. Listing graph list l in
    subst P (ap reverse e ∙ reverse-append rest (next ∷ [])) h

-- its route is listed, and its extensions are put on that list
pub Listing-pushed : (graph : Shape) (list : List Route) (rest new : List Ahead) (r : Route) (a : ℕ) (row : List ℕ)
    → Listing graph list (record { route = r; stone = a } ∷ reverse rest) → row ≡ targets_of graph.targets a
    → new ≡ rest ++ reverse (extensions r row) → Listing graph (list ++ r ∷ []) (reverse new)
Listing-pushed graph list rest new r a row h e made =
    let P : List Ahead → Type 0 = λ l. Listing graph (list ++ r ∷ []) l in
    let turned : reverse new ≡ extensions r (targets_of graph.targets a) ++ reverse rest = ap reverse made
    ∙ reverse-append rest (reverse (extensions r row)) ∙ ap (λ l. l ++ reverse rest) (reverse-reverse (extensions r row))
    ∙ ap (λ l. extensions r l ++ reverse rest) e in
    subst P (sym turned) (Listing-step graph list r a (reverse rest) h)

-- so many routes there are at least, once the extensions of the next are known
pub routes-known : (graph : Shape) (list : List Route) (rest : List Ahead) (r : Route) (a : ℕ) (row : List ℕ)
    → Listing graph list (record { route = r; stone = a } ∷ reverse rest) → row ≡ targets_of graph.targets a
    → length list + 1 + length row + length rest ≤ length (routes_of graph)
routes-known graph list rest r a row h e =
    let more = extensions r (targets_of graph.targets a) in
    omega (
      arith,
      length-Listing graph (list ++ r ∷ []) (more ++ reverse rest) (Listing-step graph list r a (reverse rest) h),
      length-append list (r ∷ []),
      length-append more (reverse rest),
      length-reverse rest,
      length-extensions r (targets_of graph.targets a),
      ap length e,
    )
