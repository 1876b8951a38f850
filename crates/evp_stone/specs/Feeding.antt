-- What the actor of a source gives.
use Rattle.std.specs.Prelude.{◌≡◌, ℕ, ◌+◌, ◌≤◌, List, [], ◌∷◌, ◌++◌, map, take, drop, length}
use Rattle.std.specs.Prelude.{slice_get, Some}
use Rattle.std.specs.List.{sum}
use Rattle.evp_graph.specs.declared.route.Route.{Route}
use Rattle.evp_stone.specs.Accounts.{flow_of, portions, records_of}
use Rattle.evp_stone.specs.Carried.{Carried}
use Rattle.evp_stone.specs.Flow.{Part, item, mark, flow_from}
use Rattle.evp_stone.specs.Job.{submits}
use Rattle.evp_stone.specs.JobShape.{JobShape}
use Rattle.evp_stone.specs.Port.{Counting}

-- what a source does
pub record SourceWork : Type 0 where
  pub source : ℕ
  -- the number of the route to its stone
  pub route : ℕ
  -- how many entries it has given, which is the position of the next one
  pub given : ℕ
  -- the round in which it is, how many of the round's records it has still to give, and the index
  -- of the next one
  pub round : ℕ
  pub left : ℕ
  pub index : ℕ

-- what is to come from a round on, of which so many records are left: these, the round's end, and
-- the later rounds, which have so many records each
abbrev pub coming : ℕ → List ℕ → ℕ → List Carried → List Part
coming round [] left records = []
coming round (n ∷ numbers) left records =
    map item (take left records) ++ mark round
    ∷ flow_from (round + 1) (portions numbers (drop left records))

-- what a source has still to give
abbrev pub to_come : JobShape → SourceWork → List Part
to_come job work =
    coming work.round (drop work.round (submits work.source job.rounds)) work.left
    (drop work.index (records_of job work.source))

-- What holds of a source's actor, by the counts of its port: it has given the flow of its route up
-- to the count, and what it has still to give, the next entry first, is the rest of the flow.
pub record HasFed (job : JobShape) (given : Counting) (work : SourceWork) : Type 0 where
  pub route : Route
  pub there : slice_get job.routes work.route ≡ Some route
  pub source : route.source ≡ work.source
  pub first : route.positions ≡ []
  pub count : given work.route ≡ Some work.given
  pub within : work.given ≤ length (flow_of job route)
  pub rest : drop work.given (flow_of job route) ≡ to_come job work
  -- the file has the records for it
  pub enough : work.index + work.left + sum (drop (work.round + 1) (submits work.source job.rounds))
      ≤ length (records_of job work.source)
