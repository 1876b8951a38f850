-- Entries of the queues between stones, and what they stand for.
use Rattle.std.specs.Prelude.{◌≡◌, ℕ, List, [], map, slice_get, Option, Some, None, Ok}
use Rattle.std.specs.Arc.{arc_value}
use Rattle.evp_format.specs.Layout.{Layout}
use Rattle.evp_format.specs.Viewing.{view}
use Rattle.evp_graph.specs.declared.route.Route.{Route}
use Rattle.evp_record.specs.OwnedBytes.{OwnedBytes}
use Rattle.evp_stone.specs.declared.entry.Entry.{Entry}
use Rattle.evp_stone.specs.declared.entry.Entry.TheVariants.{Item, Mark}
use Rattle.evp_stone.specs.Accounts.{flow_of}
use Rattle.evp_stone.specs.Carried.{Carried}
use Rattle.evp_stone.specs.Flow.{Part, item, mark}
use Rattle.evp_stone.specs.JobShape.{JobShape}

-- what an entry stands for: a part of a flow, by the formats of the job
pub record Fact : Type 0 where
  pub formats : List Layout
  pub part : Part

abbrev pub facts : List Layout → List Part → List Fact
facts formats parts = map (λ part. record { formats = formats; part = part }) parts

abbrev pub flow_at : JobShape → Option Route → List Part
flow_at job None = []
flow_at job (Some route) = flow_of job route

-- the flow of the route of this number
abbrev pub flow : JobShape → ℕ → List Fact
flow job number = facts job.formats (flow_at job (slice_get job.routes number))

-- the record stands for another one: it has its format, and its bytes have its value there
pub record IsThat (formats : List Layout) (owned : OwnedBytes) (c : Carried) : Type 0 where
  pub layout : Layout
  pub format : owned.format ≡ c.format
  pub there : slice_get formats owned.format ≡ Some layout
  pub viewed : view layout owned.bytes ≡ Ok c.value

abbrev pub StandsForPart : List Layout → Entry → Part → Type 0
StandsForPart formats (Item route position index owned) (item c) =
    (index ≡ c.index) × IsThat formats (arc_value owned) c
StandsForPart formats (Item route position index owned) (mark round) = ⊥
StandsForPart formats (Mark route position ended) (item c) = ⊥
StandsForPart formats (Mark route position ended) (mark round) = ended ≡ round

abbrev pub stands_for : Entry → Fact → Type 0
stands_for entry fact = StandsForPart fact.formats entry fact.part

abbrev pub route_of : Entry → ℕ
route_of (Item route position index owned) = route
route_of (Mark route position round) = route

abbrev pub position_of : Entry → ℕ
position_of (Item route position index owned) = position
position_of (Mark route position round) = position
