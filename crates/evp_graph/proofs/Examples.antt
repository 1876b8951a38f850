-- The definitions, computed on small graphs.
use Rattle.std.proofs.Common.{◌≡◌, ℕ, suc, List, [], ◌∷◌, ◌++◌, length, refl, lit<}
use Rattle.evp_graph.specs.Shape.{Shape, shape, Reaches}
use Rattle.evp_graph.specs.Routes.{IsRoute, routes_of}
use Rattle.evp_graph.specs.declared.route.Route.{Route}

abbrev route : ℕ → List ℕ → List ℕ → Route
route source positions stones = record { source = source; positions = positions; stones = stones }

-- a split to two filters, both of which lead to one terminal
abbrev diamond : Shape
diamond = shape (0 ∷ []) ((1 ∷ 2 ∷ []) ∷ (3 ∷ []) ∷ (3 ∷ []) ∷ [] ∷ [])

routes_of-diamond : routes_of diamond
    ≡ route 0 [] (0 ∷ []) ∷ route 0 (0 ∷ []) (0 ∷ 1 ∷ []) ∷ route 0 (0 ∷ 0 ∷ []) (0 ∷ 1 ∷ 3 ∷ []) ∷ route 0 (1 ∷ []) (0 ∷ 2 ∷ []) ∷ route 0
    (1 ∷ 0 ∷ []) (0 ∷ 2 ∷ 3 ∷ []) ∷ []
routes_of-diamond = refl

-- two positions that name one stone make two routes, and a stone that no route reaches makes none
routes_of-twice : routes_of (shape (0 ∷ []) ((1 ∷ 1 ∷ []) ∷ [] ∷ (0 ∷ []) ∷ []))
    ≡ route 0 [] (0 ∷ []) ∷ route 0 (0 ∷ []) (0 ∷ 1 ∷ []) ∷ route 0 (1 ∷ []) (0 ∷ 1 ∷ []) ∷ []
routes_of-twice = refl

-- two sources at one stone
routes_of-two_sources : routes_of (shape (1 ∷ 1 ∷ []) ([] ∷ [] ∷ [])) ≡ route 0 [] (1 ∷ []) ∷ route 1 [] (1 ∷ []) ∷ []
routes_of-two_sources = refl

is_route : IsRoute diamond (route 0 (1 ∷ 0 ∷ []) (0 ∷ 2 ∷ 3 ∷ []))
is_route = (refl, (refl, (refl, tt)))

-- ten splits in a chain, each with its target named twice, and a last one without targets
abbrev chain : ℕ → List (List ℕ)
chain n = (suc n ∷ suc n ∷ []) ∷ []

ten_splits : length (routes_of
    (shape (0 ∷ []) (chain 0 ++ chain 1 ++ chain 2 ++ chain 3 ++ chain 4 ++ chain 5 ++ chain 6 ++ chain 7 ++ chain 8 ++ chain 9
    ++ [] ∷ []))) ≡ 2047
ten_splits = refl

-- a stone that reaches itself over another
reaches_itself : Reaches ((1 ∷ []) ∷ [] ∷ (4 ∷ []) ∷ [] ∷ (2 ∷ []) ∷ []) 2 2
reaches_itself = (4 ∷ [], ((0, lit< tt, refl), (0, lit< tt, refl)))
