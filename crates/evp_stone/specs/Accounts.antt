-- What a job carries: for each route what comes in each round, its accounts, its flow, and what
-- would come through without rounds.
use Rattle.std.specs.Prelude.{ℕ, ◌+◌, Bool, List, [], ◌∷◌, map, take, drop, length}
use Rattle.std.specs.Prelude.{slice_get, Option, Some, None}
use Rattle.std.specs.List.{sum}
use Rattle.std.specs.Option.{unwrap_or}
use Rattle.evp_format.specs.Datum.{Datum, null}
use Rattle.evp_format.specs.Layout.{Layout}
use Rattle.evp_graph.specs.declared.route.Route.{Route}
use Rattle.evp_queue.specs.Counts.{is_among}
use Rattle.evp_record.specs.Owned.{value_in}
use Rattle.evp_record.specs.OwnedBytes.{OwnedBytes}
use Rattle.evp_stone.specs.declared.source.Source.{Source}
use Rattle.evp_stone.specs.declared.stone.Stone.{Stone}
use Rattle.evp_stone.specs.declared.round.Round.{Round}
use Rattle.evp_stone.specs.Carried.{Carried, Acts}
use Rattle.evp_stone.specs.Flow.{Part, flow_from}
use Rattle.evp_stone.specs.Job.{submits}
use Rattle.evp_stone.specs.JobShape.{JobShape}
use Rattle.evp_action.specs.Acting.{act}
use Rattle.evp_action.specs.Outcome.{Outcome, dropped}
use Rattle.evp_stone.specs.Route.{last_stone, steps_of}
use Rattle.evp_stone.specs.Rounds.{Worked, rounds_from, arrivals_of}
use Rattle.evp_stone.specs.Tally.{Tally, account_of}
use Rattle.evp_stone.specs.Through.{through}

-- what a record that owns its bytes is, by its index in its source's file
abbrev pub carried_of : List Layout → ℕ → OwnedBytes → Carried
carried_of formats index owned = record {
  index = index;
  format = owned.format;
  value = unwrap_or (value_in formats owned) null;
}

-- these records of a file, whose indexes begin here
abbrev pub carried_from : List Layout → ℕ → List OwnedBytes → List Carried
carried_from formats index [] = []
carried_from formats index (owned ∷ items) =
    carried_of formats index owned ∷ carried_from formats (index + 1) items

-- the first so many for the first round, then the next so many for the next, and so on
abbrev pub portions : List ℕ → List Carried → List (List Carried)
portions [] records = []
portions (n ∷ numbers) records = take n records ∷ portions numbers (drop n records)

abbrev pub items_of : Option Source → List OwnedBytes
items_of (Some source) = source.items
items_of None = []

-- what the action of a stone does, sending to so many targets
abbrev pub act_by : List Layout → ℕ → Option Stone → ℕ → Datum → Outcome
act_by formats limit (Some stone) format value =
    act formats limit stone.action (length stone.targets) format value
act_by formats limit None format value = dropped

module _ (job : JobShape) where
  -- what the stones of the job do with records
  abbrev pub act_of : Acts
  act_of stone format value = act_by job.formats job.limit (slice_get job.stones stone) format value

  -- for each round whether the stone is frozen in it
  abbrev pub freezes_of : ℕ → List Bool
  freezes_of stone = map (λ (round : Round). is_among stone round.frozen) job.rounds

  -- the records of a source's file
  abbrev pub records_of : ℕ → List Carried
  records_of source = carried_from job.formats 0 (items_of (slice_get job.sources source))

  -- what a source submits in each round
  abbrev pub submitted_of : ℕ → List (List Carried)
  submitted_of source = portions (submits source job.rounds) (records_of source)

  -- what comes to the last stone of a route in each round
  abbrev pub arrivals : Route → List (List Carried)
  arrivals route = arrivals_of act_of freezes_of (submitted_of route.source) (steps_of route)

  -- what its last stone acts on and keeps in each round
  abbrev pub rounds_of : Route → List Worked
  rounds_of route = rounds_from [] (freezes_of (last_stone route)) (arrivals route)

  -- the account of each round
  abbrev pub accounts_of : Route → List Tally
  accounts_of route = map (account_of act_of (last_stone route)) (rounds_of route)

  -- all that is ever sent on a route
  abbrev pub flow_of : Route → List Part
  flow_of route = flow_from 0 (arrivals route)

  -- all records that reach the last stone of a route where no stone is ever frozen
  abbrev pub through_of : Route → List Carried
  through_of route =
      through act_of (take (sum (submits route.source job.rounds)) (records_of route.source))
      (steps_of route)
