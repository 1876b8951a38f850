-- The job of the tests: a source without records, which leads to a terminal, and one round.
use Rattle.std.specs.Prelude.{List, [], ◌∷◌, codes}
use Rattle.evp_action.specs.declared.action.Action.TheVariants.{Terminal}
use Rattle.evp_format.specs.Layout.{Layout}
use Rattle.evp_graph.specs.declared.route.Route.{Route}
use Rattle.evp_stone.specs.declared.round.Round.{Round}
use Rattle.evp_stone.specs.declared.source.Source.{Source}
use Rattle.evp_stone.specs.declared.stone.Stone.{Stone}
use Rattle.evp_stone.specs.JobShape.{JobShape}

abbrev pub idle_route : Route
idle_route = record { source = 0; positions = []; stones = 0 ∷ [] }

abbrev pub idle_source : Source
idle_source = record { name = codes "a"; stone = 0; items = [] }

abbrev pub idle_stone : Stone
idle_stone = record { action = Terminal 0; targets = [] }

abbrev pub idle_round : Round
idle_round = record { submit = 0 ∷ []; frozen = [] }

abbrev pub idle_with : Layout → List Route → JobShape
idle_with layout routes = record {
  formats = layout ∷ [];
  declared = 1;
  limit = 4096;
  queue = 64;
  sources = idle_source ∷ [];
  stones = idle_stone ∷ [];
  rounds = idle_round ∷ [];
  routes = routes;
}

abbrev pub idle : Layout → JobShape
idle layout = idle_with layout (idle_route ∷ [])
