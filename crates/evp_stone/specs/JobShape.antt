-- What a job is.
use Rattle.std.specs.Prelude.{ℕ, List, map}
use Rattle.evp_format.specs.Layout.{Layout}
use Rattle.evp_graph.specs.declared.route.Route.{Route}
use Rattle.evp_graph.specs.Shape.{Shape, shape}
use Rattle.evp_stone.specs.declared.source.Source.{Source}
use Rattle.evp_stone.specs.declared.stone.Stone.{Stone}
use Rattle.evp_stone.specs.declared.round.Round.{Round}

pub record JobShape : Type 0 where
  pub formats : List Layout
  pub declared : ℕ
  pub limit : ℕ
  pub queue : ℕ
  pub sources : List Source
  pub stones : List Stone
  pub rounds : List Round
  pub routes : List Route

-- the graph of its sources and stones
abbrev pub graph_of : JobShape → Shape
graph_of job = shape (map (λ (s : Source). s.stone) job.sources)
    (map (λ (s : Stone). s.targets) job.stones)
