-- A report while it is told line by line.
use Rattle.std.specs.Prelude.{ℕ, zero, suc, ◌+◌, ◌-◌, List, [], ◌++◌, map, drop, length}
use Rattle.evp_report.specs.Report.{routes_lines, rounds_text, told_of}
use Rattle.evp_stone.specs.JobShape.{JobShape}

-- a job of nothing
abbrev pub no_job : JobShape
no_job = record {
  limit = 0;
  queue = 0;
  declared = 0;
  formats = [];
  sources = [];
  stones = [];
  rounds = [];
  routes = [];
}

-- the rounds from one on
abbrev pub rounds_left : JobShape → ℕ → List ℕ
rounds_left job round =
    rounds_text round (length job.rounds - round) (map (told_of job) job.routes)

-- what is left of a job's report behind its first rounds and, of the next one, so many of its lines:
-- its own first, and then those of each route
abbrev pub left_of : JobShape → ℕ → ℕ → List ℕ
left_of job round zero = rounds_left job round
left_of job round (suc place) =
    routes_lines job round (drop place job.routes) ++ rounds_left job (round + 1)
