-- The report of a job: for each round its number, and for each route what its last stone did in it.
use Rattle.std.specs.Prelude.{◌≡◌, ℕ, zero, suc, ◌+◌, List, [], ◌++◌, codes, length, map}
use Rattle.std.specs.Prelude.{slice_get, Option, Some, None}
use Rattle.std.specs.Fmt.{decimal}
use Rattle.std.specs.List.{flat_map}
use Rattle.evp_action.specs.declared.acted.Reason.{Reason}
use Rattle.evp_action.specs.declared.acted.Reason.TheVariants.{Clash, Unfit, Large}
use Rattle.evp_action.specs.declared.acted.Reason.TheVariants.{Overflow, ZeroDivide, Index}
use Rattle.evp_base.specs.Path.{path_text}
use Rattle.evp_format.specs.ValueText.{value_text}
use Rattle.evp_graph.specs.declared.route.Route.{Route}
use Rattle.evp_stone.specs.declared.source.Source.{Source}
use Rattle.evp_stone.specs.Accounts.{accounts_of}
use Rattle.evp_stone.specs.Carried.{Carried}
use Rattle.evp_stone.specs.JobShape.{JobShape}
use Rattle.evp_stone.specs.Tally.{Tally}

abbrev pub line_end : List ℕ
line_end = codes "\n"

-- a number behind these words
abbrev pub counted : List ℕ → ℕ → List ℕ
counted words number = words ++ decimal number

-- where in a transform it happened
abbrev pub setting_text : Option ℕ → List ℕ
setting_text None = []
setting_text (Some k) = counted (codes " of set ") k

abbrev pub place_text : List ℕ → ℕ → Option ℕ → List ℕ
place_text words at setting = counted words at ++ setting_text setting

-- why a record was refused
abbrev pub reason_text : Reason → List ℕ
reason_text (Clash path) = codes "clash " ++ path_text path
reason_text (Unfit path) = codes "unfit " ++ path_text path
reason_text (Large path) = codes "large " ++ path_text path
reason_text (Overflow setting at) = place_text (codes "overflow at ") at setting
reason_text (ZeroDivide setting at) = place_text (codes "zero divide at ") at setting
reason_text (Index setting at) = place_text (codes "index at ") at setting

-- a record by its index in its source's file
abbrev pub numbered_line : ℕ → List ℕ → List ℕ
numbered_line index text = counted (codes "#") index ++ codes " " ++ text ++ line_end

abbrev pub refused_line : ℕ × Reason → List ℕ
refused_line refused = numbered_line refused.0 (reason_text refused.1)

abbrev pub arrived_line : Carried → List ℕ
arrived_line c = numbered_line c.index (value_text c.value)

-- how many records went on or were received, were dropped, were refused, and are kept
abbrev pub counts_text : ℕ → ℕ → ℕ → ℕ → List ℕ
counts_text passed dropped refused held =
    counted (codes " passed ") passed ++ counted (codes " dropped ") dropped
    ++ counted (codes " refused ") refused ++ counted (codes " held ") held ++ line_end

-- what stands behind a route's name: the counts, then each record that was refused, then each that
-- was received
abbrev pub account_text : Tally → List ℕ
account_text tally =
    counts_text tally.passed tally.dropped (length tally.refused) tally.held
    ++ flat_map refused_line tally.refused ++ flat_map arrived_line tally.arrived

-- what a route's last stone did in a round
abbrev pub route_lines : List ℕ → Tally → List ℕ
route_lines name tally = name ++ account_text tally

-- the source's name and the numbers of the stones, joined by `>`
abbrev pub source_name : Option Source → List ℕ
source_name None = []
source_name (Some source) = source.name

abbrev pub stones_text : List ℕ → List ℕ
stones_text stones = flat_map (counted (codes ">")) stones

abbrev pub route_name : JobShape → Route → List ℕ
route_name job route =
    source_name (slice_get job.sources route.source) ++ stones_text route.stones

-- a route's name, and the account of each round
abbrev pub Told : Type 0
Told = List ℕ × List Tally

abbrev pub told_of : JobShape → Route → Told
told_of job route = (route_name job route, accounts_of job route)

abbrev pub lines_in : Option Tally → List ℕ → List ℕ
lines_in None name = []
lines_in (Some tally) name = route_lines name tally

-- the lines of a route in a round
abbrev pub told_in : ℕ → Told → List ℕ
told_in round route = lines_in (slice_get route.1 round) route.0

-- a round's line
abbrev pub round_line : ℕ → List ℕ
round_line round = counted (codes "round ") round ++ line_end

-- a round's line, and the lines of each route in it
abbrev pub round_lines : ℕ → List Told → List ℕ
round_lines round routes = round_line round ++ flat_map (told_in round) routes

-- the lines of some routes of a job in a round
abbrev pub routes_lines : JobShape → ℕ → List Route → List ℕ
routes_lines job round routes = flat_map (λ route. told_in round (told_of job route)) routes

abbrev pub lines_at : JobShape → ℕ → Option Route → List ℕ
lines_at job round None = []
lines_at job round (Some route) = told_in round (told_of job route)

-- the lines of the route of this number in a round
abbrev pub lines_of : JobShape → ℕ → ℕ → List ℕ
lines_of job number round = lines_at job round (slice_get job.routes number)

-- these are the routes from this number on, or some of them
abbrev pub StandFrom : List Route → ℕ → List Route → Type 0
StandFrom all from routes = (k : ℕ) (route : Route) → slice_get routes k ≡ Some route
    → slice_get all (from + k) ≡ Some route

-- so many rounds from this one on
abbrev pub rounds_text : ℕ → ℕ → List Told → List ℕ
rounds_text round zero routes = []
rounds_text round (suc n) routes = round_lines round routes ++ rounds_text (round + 1) n routes

-- the report of a job
abbrev pub report : JobShape → List ℕ
report job = rounds_text 0 (length job.rounds) (map (told_of job) job.routes)
