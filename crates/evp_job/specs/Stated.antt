-- What holds of each job that a document states.
use Rattle.std.specs.Prelude.{ℕ, ◌≡◌, ◌<◌, ◌≤◌, List, length, map, All}
use Rattle.evp_action.specs.Agreement.{Agrees}
use Rattle.evp_file.specs.declared.file.KnownFormat.{KnownFormat}
use Rattle.evp_format.specs.Layout.{Layout}
use Rattle.evp_graph.specs.Routes.{ListsRoutes, routes_of}
use Rattle.evp_graph.specs.Shape.{Shape, shape, IsSound}
use Rattle.evp_job.specs.declared.job_text.JobText.{JobText}
use Rattle.evp_job.specs.declared.sources.SourceText.{SourceText}
use Rattle.evp_stone.specs.declared.round.Round.{Round}
use Rattle.evp_stone.specs.declared.stone.Stone.{Stone}

-- the layouts of formats
abbrev pub layouts_of : List KnownFormat → List Layout
layouts_of formats = map (λ (known : KnownFormat). known.format) formats

-- the graph of sources and stones
abbrev pub graph_of : List SourceText → List Stone → Shape
graph_of sources stones = shape (map (λ (source : SourceText). source.stone) sources)
    (map (λ (stone : Stone). stone.targets) stones)

-- the limits of a document
pub record IsBounded (text : JobText) : Type 0 where
  pub longest : (64 ≤ text.limit) × (text.limit ≤ 262144)
  pub queue : (1 ≤ text.queue) × (text.queue ≤ 4096)
  pub formats : length text.formats.items ≤ 256
  pub sources : (1 ≤ length text.sources.items) × (length text.sources.items ≤ 64)
  pub stones : (1 ≤ length text.stones.items) × (length text.stones.items ≤ 256)
  pub rounds : (1 ≤ length text.rounds.items) × (length text.rounds.items ≤ 64)
  pub targets : All (λ (stone : Stone). length stone.targets ≤ 16) text.stones.items
  pub routes : length text.routes ≤ 1024

-- a round has a number for each of so many sources, and freezes some of so many stones
pub record IsRoundOf (sources stones : ℕ) (round : Round) : Type 0 where
  pub submit : length round.submit ≡ sources
  pub few : All (λ n. n ≤ 131072) round.submit
  pub frozen : All (λ stone. stone < stones) round.frozen

pub record IsStated (text : JobText) : Type 0 where
  pub bounded : IsBounded text
  pub named : length text.names.items ≡ length text.formats.items
  pub sound : IsSound (graph_of text.sources.items text.stones.items)
  pub routes : text.routes ≡ routes_of (graph_of text.sources.items text.stones.items)
  pub listed : ListsRoutes (graph_of text.sources.items text.stones.items) text.routes
  pub rounds : All (IsRoundOf (length text.sources.items) (length text.stones.items))
      text.rounds.items
  pub actions : All (λ (stone : Stone). Agrees (layouts_of text.formats.items)
      (length text.formats.items) stone.action) text.stones.items
