-- What a source's actor is seen as, its next entry, and where it stands behind that.
use Rattle.std.specs.Prelude.{◌≡◌, ℕ, ◌+◌, ◌-◌, ◌^◌, ◌<◌, ◌≤◌, ◌==◌, if◌then◌else◌}
use Rattle.std.specs.Prelude.{List, ◌∷◌, length, drop, slice_index_or}
use Rattle.std.specs.List.{sum}
use Rattle.evp_stone.specs.declared.entry.Entry.{Entry}
use Rattle.evp_stone.specs.declared.feeder.Feeder.{Feeder}
use Rattle.evp_stone.specs.Accounts.{records_of}
use Rattle.evp_stone.specs.Entries.{StandsForPart, route_of, position_of}
use Rattle.evp_stone.specs.Feeding.{SourceWork, to_come}
use Rattle.evp_stone.specs.Flow.{Part}
use Rattle.evp_stone.specs.Job.{submits}
use Rattle.evp_stone.specs.JobShape.{JobShape}

abbrev pub fed : Feeder → SourceWork
fed feeder = record {
  source = feeder.source;
  route = feeder.route;
  given = feeder.given;
  round = feeder.round;
  left = feeder.left;
  index = feeder.index;
}

-- how many records a source submits in a round; behind the last round none
abbrev pub submitted_in : JobShape → ℕ → ℕ → ℕ
submitted_in job source round = slice_index_or (submits source job.rounds) round 0

-- there is an entry to come, and numbers fit their types behind it
pub record HasMore (job : JobShape) (work : SourceWork) : Type 0 where
  pub source : work.source < length job.sources
  pub route : work.route < length job.routes
  pub round : work.round < length job.rounds
  -- the file has the records for it
  pub enough : work.index + work.left + sum (drop (work.round + 1) (submits work.source job.rounds))
      ≤ length (records_of job work.source)
  pub given_fits : work.given + 1 < 2 ^ 32
  pub round_fits : work.round + 1 < 2 ^ 32
  pub index_fits : work.index + work.left < 2 ^ 32

-- the entry is the one to come
pub record IsToCome (job : JobShape) (work : SourceWork) (entry : Entry) : Type 0 where
  pub route : route_of entry ≡ work.route
  pub position : position_of entry ≡ work.given
  pub stands : (part : Part) (parts : List Part) → to_come job work ≡ part ∷ parts
      → StandsForPart job.formats entry part

-- behind a round's end, and behind a record
abbrev pub behind_end : JobShape → SourceWork → SourceWork
behind_end job work = record {
  source = work.source;
  route = work.route;
  given = work.given + 1;
  round = work.round + 1;
  left = submitted_in job work.source (work.round + 1);
  index = work.index;
}

abbrev pub behind_record : SourceWork → SourceWork
behind_record work = record {
  source = work.source;
  route = work.route;
  given = work.given + 1;
  round = work.round;
  left = work.left - 1;
  index = work.index + 1;
}

-- behind the entry to come
abbrev pub behind_next : JobShape → SourceWork → SourceWork
behind_next job work = if work.left == 0 then behind_end job work else behind_record work
