-- The state of an actor: what holds of it whenever no turn runs.
use Rattle.std.specs.Prelude.{◌≡◌, ℕ, ◌+◌, ◌≤◌, ◌==◌, if◌then◌else◌, List, [], ◌∷◌, length}
use Rattle.std.specs.Prelude.{Option, Some, None, IsSome, slice_get}
use Rattle.std.specs.List.{Contains}
use Rattle.evp_action.specs.Asking.{pairs_of}
use Rattle.evp_cache.specs.Known.{Cells, Known, IsPassOf, found_for}
use Rattle.evp_graph.specs.declared.route.Route.{Route}
use Rattle.evp_stone.specs.declared.stone.Stone.{Stone}
use Rattle.evp_stone.specs.Carried.{Carried}
use Rattle.evp_stone.specs.Feeding.{SourceWork, HasFed}
use Rattle.evp_stone.specs.JobShape.{JobShape}
use Rattle.evp_stone.specs.Laws.{done_of}
use Rattle.evp_stone.specs.Port.{Counting}
use Rattle.evp_stone.specs.Route.{last_stone}
use Rattle.evp_stone.specs.State.{RouteWork, StoneWork, HasState, round_in}

-- an actor is a source's or a stone's; of a stone's it is said how many of its routes have rounds
-- to come
pub data Role : Type 0 where
  feeds : SourceWork → Role
  works : StoneWork → ℕ → Role

pub record ActorShape : Type 0 where
  pub role : Role
  -- what its pass of the cache of plans knows
  pub known : List Known
  -- how many plans it built, and how many of its turns found no memory
  pub builds : ℕ
  pub starved : ℕ

-- how many of these have rounds to come, where there are so many rounds
abbrev pub count_unended : ℕ → List RouteWork → ℕ
count_unended rounds [] = 0
count_unended rounds (work ∷ others) =
    (if round_in work == rounds then 0 else 1) + count_unended rounds others

-- it has given and acted as its job says, by the counts of its port
abbrev pub HasRole : JobShape → Counting → Counting → Role → Type 0
HasRole job taken given (feeds work) = HasFed job given work
HasRole job taken given (works work unended) =
    HasState job taken given work × (unended ≡ count_unended (length job.rounds) work.routes)

-- the formats between which a stone converts a record
abbrev pub pairs_by : JobShape → Option Stone → Carried → List (ℕ × ℕ)
pairs_by job None c = []
pairs_by job (Some stone) c = pairs_of job.formats job.limit stone.action c.format c.value

-- the stone converts between these formats, for a record on which it acts in some round
pub record Converts (job : JobShape) (stone from to : ℕ) : Type 0 where
  pub number : ℕ
  pub route : Route
  pub there : slice_get job.routes number ≡ Some route
  pub last : last_stone route ≡ stone
  pub c : Carried
  pub acted : Contains (done_of job route) c
  pub pair : Contains (pairs_by job (slice_get job.stones stone) c) (from, to)

-- a source converts nothing
abbrev pub Meets : JobShape → Role → ℕ → ℕ → Type 0
Meets job (feeds work) from to = ⊥
Meets job (works work unended) from to = Converts job work.stone from to

-- What holds of an actor between its turns, by the counts of its port.
pub record HasActed (job : JobShape) (cells : Cells) (taken given : Counting) (actor : ActorShape)
    : Type 0 where
  pub role : HasRole job taken given actor.role
  -- what its pass knows is right, and is of formats between which it converts
  pub pass : IsPassOf cells job.formats actor.known
  pub met : (from to : ℕ) → IsSome (found_for actor.known from to) → Meets job actor.role from to
  -- it built a plan at most for each pair that it knows and for each turn that found no memory
  pub builds : actor.builds ≤ length actor.known + actor.starved
