-- What is left of a report, computed on a job of two rounds.
use Rattle.std.proofs.Common.{◌≡◌, ℕ, List, [], ◌∷◌, ◌++◌, refl}
use Rattle.std.specs.Prelude.{codes}
use Rattle.std.specs.Fmt.{digits}
use Rattle.evp_action.specs.declared.action.Action.TheVariants.{Split, Terminal}
use Rattle.evp_base.specs.declared.order.Order.TheVariants.{Little}
use Rattle.evp_format.specs.Layout.{Layout}
use Rattle.evp_graph.specs.Routes.{routes_of}
use Rattle.evp_stone.specs.declared.round.Round.{Round}
use Rattle.evp_stone.specs.JobShape.{JobShape, graph_of}
use Rattle.evp_stones.specs.Told.{left_of}

abbrev layout : Layout
layout = record { order = Little; pointer = 4; types = record { name = codes "p"; length = 4; fields = [] } ∷ [] }

-- nothing comes to a split before a terminal, in two rounds
abbrev idle : JobShape
idle =
    let round : Round = record { submit = 0 ∷ []; frozen = [] } in
    let parts : JobShape = record {
      formats = layout ∷ [];
      declared = 1;
      limit = 4096;
      queue = 64;
      sources = record { name = codes "a"; stone = 0; items = [] } ∷ [];
      stones = record { action = Split; targets = 1 ∷ [] } ∷ record { action = Terminal 0; targets = [] } ∷ [];
      rounds = round ∷ round ∷ [];
      routes = [];
    } in
    record parts { routes = routes_of (graph_of parts) }

abbrev first : List ℕ
first = codes "a>0 passed 0 dropped 0 refused 0 held 0\n"

abbrev second : List ℕ
second = codes "a>0>1 passed 0 dropped 0 refused 0 held 0\n"

abbrev last_round : List ℕ
last_round = codes "round 1\n" ++ first ++ second

left : left_of idle 0 0 ∷ left_of idle 0 1 ∷ left_of idle 0 2 ∷ left_of idle 0 3 ∷ left_of idle 1 0 ∷ left_of idle 1 2
    ∷ left_of idle 1 3 ∷ left_of idle 2 0 ∷ []
    ≡ (codes "round 0\n" ++ first ++ second ++ last_round) ∷ (first ++ second ++ last_round) ∷ (second ++ last_round)
    ∷ last_round ∷ last_round ∷ second ∷ [] ∷ [] ∷ []
unfolding digits
left = refl
