-- What holds of every job.
use Rattle.std.specs.Prelude.{ℕ, ◌≡◌, ◌+◌, ◌*◌, ◌^◌, ◌<◌, ◌≤◌, List, length, map, All, slice_index}
use Rattle.std.specs.Prelude.{slice_get, Some}
use Rattle.std.specs.List.{sum_by, sum}
use Rattle.evp_graph.specs.declared.route.Route.{Route}
use Rattle.evp_graph.specs.Shape.{IsSound}
use Rattle.evp_graph.specs.Routes.{ListsRoutes, routes_of}
use Rattle.evp_record.specs.Owned.{HasValueIn}
use Rattle.evp_stone.specs.declared.source.Source.{Source}
use Rattle.evp_stone.specs.declared.stone.Stone.{Stone}
use Rattle.evp_stone.specs.declared.round.Round.{Round}
use Rattle.evp_action.specs.Agreement.{Agrees}
use Rattle.evp_stone.specs.JobShape.{JobShape, graph_of}

-- how many records the source of this number submits in each round
abbrev pub submits : ℕ → List Round → List ℕ
submits source rounds = map (λ (round : Round). slice_index round.submit source) rounds

-- how many records all routes are to carry: each those that its source submits
abbrev pub carried : JobShape → ℕ
carried job = sum_by (λ (route : Route). sum (submits route.source job.rounds)) job.routes

-- the limits of a job
pub record HasLimits (job : JobShape) : Type 0 where
  pub formats : length job.formats ≤ 1024
  pub declared : job.declared ≤ 256
  pub longest : (64 ≤ job.limit) × (job.limit ≤ 262144)
  pub queue : (1 ≤ job.queue) × (job.queue ≤ 4096)
  pub sources : (1 ≤ length job.sources) × (length job.sources ≤ 64)
  pub stones : (1 ≤ length job.stones) × (length job.stones ≤ 256)
  pub rounds : (1 ≤ length job.rounds) × (length job.rounds ≤ 64)
  pub targets : All (λ (stone : Stone). length stone.targets ≤ 16) job.stones
  pub routes : length job.routes ≤ 1024
  pub records : All (λ (source : Source). length source.items ≤ 131072) job.sources
  pub carriage : carried job * (job.limit + 256) ≤ 2 ^ 31

-- a round has a number for each source, and freezes stones
pub record IsRound (job : JobShape) (round : Round) : Type 0 where
  pub submit : length round.submit ≡ length job.sources
  pub frozen : All (λ stone. stone < length job.stones) round.frozen

pub record IsJob (job : JobShape) : Type 0 where
  pub limits : HasLimits job
  pub declared : job.declared ≤ length job.formats
  pub sound : IsSound (graph_of job)
  pub routes : job.routes ≡ routes_of (graph_of job)
  pub listed : ListsRoutes (graph_of job) job.routes
  pub items : All (λ (source : Source). All (HasValueIn job.formats) source.items) job.sources
  pub rounds : All (IsRound job) job.rounds
  pub submitted : (k : ℕ) (source : Source) → slice_get job.sources k ≡ Some source
      → sum (submits k job.rounds) ≤ length source.items
  pub actions : All (λ (stone : Stone). Agrees job.formats job.declared stone.action) job.stones
