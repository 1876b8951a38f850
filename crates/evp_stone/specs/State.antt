-- What a stone's actor does, and what holds of it between its turns.
use Rattle.std.specs.Prelude.{◌≡◌, ℕ, ◌+◌, ◌≤◌, ◌==◌, Bool, true, false, if◌then◌else◌}
use Rattle.std.specs.Prelude.{List, [], ◌∷◌, ◌++◌, map, take, length, slice_get}
use Rattle.std.specs.Prelude.{slice_index_or, Option, Some, None}
use Rattle.std.specs.List.{AllZip, AllByRecursion}
use Rattle.std.specs.declared.sync.Arc.{Arc}
use Rattle.std.specs.declared.alloc.Global.{Global}
use Rattle.evp_action.specs.declared.acted.Reason.{Reason}
use Rattle.evp_format.specs.Layout.{Layout}
use Rattle.evp_graph.specs.declared.route.Route.{Route}
use Rattle.evp_graph.specs.Shape.{targets_of}
use Rattle.evp_queue.specs.Flow.{Carries}
use Rattle.evp_record.specs.OwnedBytes.{OwnedBytes}
use Rattle.evp_stone.specs.declared.account.RoundAccount.{RoundAccount}
use Rattle.evp_stone.specs.declared.entry.Entry.{Entry}
use Rattle.evp_stone.specs.Accounts.{act_of, freezes_of, arrivals, rounds_of, accounts_of, flow_of}
use Rattle.evp_stone.specs.Carried.{Carried, sent_on}
use Rattle.evp_stone.specs.Entries.{flow, stands_for, route_of, position_of}
use Rattle.evp_stone.specs.Flow.{Part, item, flow_from}
use Rattle.evp_stone.specs.JobShape.{JobShape, graph_of}
use Rattle.evp_stone.specs.Port.{Counting, IsPlacedIn}
use Rattle.evp_stone.specs.Route.{last_stone}
use Rattle.evp_stone.specs.Rounds.{held_after}
use Rattle.evp_stone.specs.Tallied.{IsReceived, IsTallied, routes_at}
use Rattle.evp_stone.specs.Tally.{Tally, tally_of}

-- where a stone sends on: the number of the longer route, and how many entries it has lined up on
-- it so far, which is the position of the next one
pub record Outlet : Type 0 where
  pub route : ℕ
  pub lined : ℕ

-- a record that is kept or received, with its index
abbrev pub Received : Type 0
Received = ℕ × Arc OwnedBytes Global

-- what a stone did in the round in which it is, as an account tells it
pub record Running : Type 0 where
  pub passed : ℕ
  pub dropped : ℕ
  pub refused : List (ℕ × Reason)
  pub arrived : List Received

-- it tells of these records
pub record IsRunning (formats : List Layout) (running : Running) (tally : Tally) : Type 0 where
  pub passed : running.passed ≡ tally.passed
  pub dropped : running.dropped ≡ tally.dropped
  pub refused : running.refused ≡ tally.refused
  pub arrived : AllZip (IsReceived formats) running.arrived tally.arrived

-- what a stone does on one of its routes
pub record RouteWork : Type 0 where
  pub route : ℕ
  -- by the stone's target positions
  pub outlets : List Outlet
  -- the records that it keeps, each with its index
  pub kept : List Received
  -- the accounts of the rounds that it has ended, and what it did in this one
  pub ended : List RoundAccount
  pub running : Running

-- what a stone does
pub record StoneWork : Type 0 where
  pub stone : ℕ
  -- the entries that wait to go out, the first one first
  pub waiting : List Entry
  -- the entry that was taken last and isn't done with yet
  pub hand : Option Entry
  pub routes : List RouteWork

-- the round in which the stone is on a route
abbrev pub round_in : RouteWork → ℕ
round_in work = length work.ended

-- whole rounds with their ends, as many as said, and behind them records of the next one
abbrev pub front_of : List (List Carried) → ℕ → List Carried → List Part
front_of arrivals rounds records = flow_from 0 (take rounds arrivals) ++ map item records

-- the first so many of these parts
pub record IsFront (parts : List Part) (count : ℕ) (front : List Part) : Type 0 where
  pub others : List Part
  pub whole : front ++ others ≡ parts
  pub long : length front ≡ count

-- 1 where the entry in hand is of this route
abbrev pub in_hand : ℕ → Option Entry → ℕ
in_hand route None = 0
in_hand route (Some entry) = if route_of entry == route then 1 else 0

-- of the records that a stone has in a round, the kept ones before the new ones, it has acted on
-- these and keeps those: where it is frozen it keeps all, else it has acted on the first of them
abbrev pub Works : Bool → List Carried → List Carried → List Carried → Type 0
Works true records done kept = (done ≡ []) × (kept ≡ records)
Works false records done kept = done ++ kept ≡ records

-- the longer route goes on from the other by one target position
pub record GoesOn (route : Route) (position : ℕ) (longer : Route) : Type 0 where
  pub stone : ℕ
  pub source : longer.source ≡ route.source
  pub positions : longer.positions ≡ route.positions ++ position ∷ []
  pub stones : longer.stones ≡ route.stones ++ stone ∷ []

module _ (job : JobShape) where
  -- whether a stone is frozen in a round. Behind the last round it is: nothing happens there
  abbrev pub is_frozen : ℕ → ℕ → Bool
  is_frozen stone round = slice_index_or (freezes_of job stone) round true

  -- what a route's last stone keeps before a round
  abbrev pub held_before : Route → ℕ → List Carried
  held_before route round = held_after [] (take round (rounds_of job route))

-- What was given at one target position of a route, where the route's stone has acted on these
-- records in this round, and what waits to be given there.
pub record HasSent (job : JobShape) (given : Counting) (waiting : List Entry) (route : Route)
    (round : ℕ) (done : List Carried) (position : ℕ) (outlet : Outlet) : Type 0 where
  pub longer : Route
  pub there : slice_get job.routes outlet.route ≡ Some longer
  pub goes_on : GoesOn route position longer
  pub so_far : ℕ
  pub count : given outlet.route ≡ Some so_far
  -- the entries of the route that wait are those behind the ones that were given
  pub waits : Carries route_of position_of flow stands_for job outlet.route so_far outlet.lined
      waiting
  -- together they are the rounds that ended, and what is sent on of the records acted on
  pub lined : IsFront (flow_of job longer) outlet.lined
      (front_of (arrivals job longer) round
      (sent_on (act_of job) (last_stone route) position done))

-- What holds of one route of a stone, by the counts of the stone's port, the entry in hand and
-- those that wait.
pub record HasWorked (job : JobShape) (taken given : Counting) (hand : Option Entry)
    (waiting : List Entry) (work : RouteWork) : Type 0 where
  pub route : Route
  pub there : slice_get job.routes work.route ≡ Some route
  -- how many entries were taken and aren't in hand, and the records of this round among them
  pub handled : ℕ
  pub new : List Carried
  pub count : taken work.route ≡ Some (handled + in_hand work.route hand)
  pub came : IsFront (flow_of job route) handled
      (front_of (arrivals job route) (round_in work) new)
  pub rounds : round_in work ≤ length job.rounds
  -- the records on which the stone acted in this round, and those that it keeps
  pub done : List Carried
  pub kept : List Carried
  pub works : Works (is_frozen job (last_stone route) (round_in work))
      (held_before job route (round_in work) ++ new) done kept
  pub stored : AllZip (IsReceived job.formats) work.kept kept
  -- its accounts of the rounds before, and of this one so far
  pub ended : AllZip (IsTallied job.formats) work.ended
      (take (round_in work) (accounts_of job route))
  pub running : IsRunning job.formats work.running
      (tally_of (act_of job) (last_stone route) done 0)
  -- what it sent on, at each target position
  pub outlets : length work.outlets ≡ length (targets_of (graph_of job).targets (last_stone route))
  pub sent : (position : ℕ) (outlet : Outlet) → slice_get work.outlets position ≡ Some outlet
      → HasSent job given waiting route (round_in work) done position outlet

-- the numbers of the routes on which a stone works
abbrev pub numbers_of : List RouteWork → List ℕ
numbers_of works = map (λ (work : RouteWork). work.route) works

-- the route is one of those on which a stone works
pub record IsAmong (works : List RouteWork) (route : ℕ) : Type 0 where
  pub place : ℕ
  pub work : RouteWork
  pub here : slice_get works place ≡ Some work
  pub is : work.route ≡ route

-- the entry in hand is of one of the stone's routes, and is the last that was taken of it
pub record IsLastTaken (job : JobShape) (taken : Counting) (works : List RouteWork) (entry : Entry)
    : Type 0 where
  pub ours : IsAmong works (route_of entry)
  pub count : taken (route_of entry) ≡ Some (position_of entry + 1)
  pub placed : IsPlacedIn job entry

-- the entry is on one of the routes that go on from the stone's
pub record GoesOut (works : List RouteWork) (entry : Entry) : Type 0 where
  pub place : ℕ
  pub work : RouteWork
  pub here : slice_get works place ≡ Some work
  pub position : ℕ
  pub outlet : Outlet
  pub at : slice_get work.outlets position ≡ Some outlet
  pub is : outlet.route ≡ route_of entry

-- What holds of a stone's actor between its turns, by the counts of its port.
pub record HasState (job : JobShape) (taken given : Counting) (work : StoneWork) : Type 0 where
  -- it works on the routes that end in the stone, and its port takes on these
  pub numbers : numbers_of work.routes ≡ routes_at job work.stone
  pub port : (route count : ℕ) → taken route ≡ Some count → IsAmong work.routes route
  pub hand : (entry : Entry) → work.hand ≡ Some entry
      → IsLastTaken job taken work.routes entry
  pub waiting : AllByRecursion (GoesOut work.routes) work.waiting
  pub each : (place : ℕ) (here : RouteWork) → slice_get work.routes place ≡ Some here
      → HasWorked job taken given work.hand work.waiting here
