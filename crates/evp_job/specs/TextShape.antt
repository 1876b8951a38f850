-- What a job document states.
use Rattle.std.specs.Prelude.{ℕ, List, map}
use Rattle.evp_action.specs.declared.action.Setting.{Setting}
use Rattle.evp_eval.specs.Bound.{BoundTree}
use Rattle.evp_file.specs.declared.file.KnownFormat.{KnownFormat}
use Rattle.evp_graph.specs.declared.route.Route.{Route}
use Rattle.evp_graph.specs.Shape.{Shape, shape}
use Rattle.evp_job.specs.Head.{HeadShape}
use Rattle.evp_job.specs.Sources.{SourceShape}
use Rattle.evp_stone.specs.declared.round.Round.{Round}

-- what a stone does, by the numbers of formats
pub data ActionShape : Type 0 where
  filter : ℕ → BoundTree → ActionShape
  router : ℕ → BoundTree → ActionShape
  transform : ℕ → ℕ → List Setting → ActionShape
  split : ActionShape
  terminal : ℕ → ActionShape

pub record StoneShape : Type 0 where
  pub action : ActionShape
  pub targets : List ℕ

abbrev pub stone_with : ActionShape → List ℕ → StoneShape
stone_with action targets = record { action = action; targets = targets }

pub record TextShape : Type 0 where
  pub limit : ℕ
  pub queue : ℕ
  pub names : List (List ℕ)
  pub formats : List KnownFormat
  pub sources : List SourceShape
  pub stones : List StoneShape
  pub rounds : List Round
  pub routes : List Route

abbrev pub text_with : HeadShape → List StoneShape → List Round → List Route → TextShape
text_with head stones rounds routes = record {
  limit = head.limit;
  queue = head.queue;
  names = head.formats.names;
  formats = head.formats.known;
  sources = head.sources;
  stones = stones;
  rounds = rounds;
  routes = routes;
}

-- the graph of these sources and stones
abbrev pub graph_with : List SourceShape → List StoneShape → Shape
graph_with sources stones = shape (map (λ (source : SourceShape). source.stone) sources)
    (map (λ (stone : StoneShape). stone.targets) stones)
