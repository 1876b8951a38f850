-- How many turns carry a job.
use Rattle.std.specs.Prelude.{ℕ, ◌+◌, ◌*◌, length}
use Rattle.std.specs.List.{sum_by, sum}
use Rattle.evp_graph.specs.declared.route.Route.{Route}
use Rattle.evp_stone.specs.Job.{submits}
use Rattle.evp_stone.specs.JobShape.{JobShape}

-- the records that a route's source submits, and the rounds
abbrev pub entries_on : JobShape → Route → ℕ
entries_on job route = sum (submits route.source job.rounds) + length job.rounds

abbrev pub entries_in : JobShape → ℕ
entries_in job = sum_by (λ (route : Route). entries_on job route) job.routes

-- in rotation all actors are closed behind so many turns
abbrev pub turns : JobShape → ℕ
turns job = (length job.sources + length job.stones) * (4 * entries_in job + 1)
