-- How many turns carry small jobs, computed.
use Rattle.std.proofs.Common.{◌≡◌, ℕ, List, [], ◌∷◌, map, refl}
use Rattle.std.specs.Prelude.{codes}
use Rattle.evp_action.specs.declared.action.Action.TheVariants.{Split}
use Rattle.evp_graph.specs.Routes.{routes_of}
use Rattle.evp_stone.specs.declared.round.Round.{Round}
use Rattle.evp_stone.specs.declared.source.Source.{Source}
use Rattle.evp_stone.specs.declared.stone.Stone.{Stone}
use Rattle.evp_stone.specs.JobShape.{JobShape, graph_of}
use Rattle.evp_core.specs.Turns.{turns}

abbrev source : Source
source = record { name = codes "a"; stone = 0; items = [] }

abbrev splits : List (List ℕ) → List Stone
splits targets = map (λ (t : List ℕ). record { action = Split; targets = t }) targets

abbrev round : ℕ → Round
round number = record { submit = number ∷ []; frozen = [] }

-- one source at the first of these stones, and so many records in each round
abbrev job : List (List ℕ) → List ℕ → JobShape
job targets numbers =
    let parts : JobShape = record {
      formats = [];
      declared = 0;
      limit = 64;
      queue = 1;
      sources = source ∷ [];
      stones = splits targets;
      rounds = map round numbers;
      routes = [];
    } in
    record parts { routes = routes_of (graph_of parts) }

-- one stone: a record and an end of a round on one route
one_stone : turns (job ([] ∷ []) (1 ∷ [])) ≡ 18
one_stone = refl

-- two ways to one stone: five routes, with a record and an end of a round on each
diamond : turns (job ((1 ∷ 2 ∷ []) ∷ (3 ∷ []) ∷ (3 ∷ []) ∷ [] ∷ []) (1 ∷ [])) ≡ 205
diamond = refl

-- two rounds of three and two records on two routes
two_rounds : turns (job ((1 ∷ []) ∷ [] ∷ []) (3 ∷ 2 ∷ [])) ≡ 171
two_rounds = refl
