-- All that one turn of a stone's actor does.
use Rattle.std.specs.Prelude.{◌≡◌, ℕ, List, length, IsSome}
use Rattle.evp_action.specs.Asking.{Keeps, BuildsFor}
use Rattle.evp_cache.specs.Known.{Cells, Known, found_for}
use Rattle.evp_stone.specs.declared.entry.Entry.{Entry}
use Rattle.evp_stone.specs.declared.turn.Turn.{Turn}
use Rattle.evp_stone.specs.declared.turn.Turn.TheVariants.{Moved, Idle, Blocked, Closed, Memory}
use Rattle.evp_stone.specs.Actor.{Converts, count_unended}
use Rattle.evp_stone.specs.JobShape.{JobShape}
use Rattle.evp_stone.specs.Port.{Counting}
use Rattle.evp_stone.specs.Seen.{holding}
use Rattle.evp_stone.specs.State.{StoneWork, HasState}
use Rattle.evp_stone.specs.Turned.{Counted, StoneGoes}
use Rattle.evp_stone.specs.Turning.{HandTurn}

-- all that the pass knows is of formats between which the stone converts
abbrev pub IsMet : JobShape → ℕ → List Known → Type 0
IsMet job stone known =
    (from to : ℕ) → IsSome (found_for known from to) → Converts job stone from to

-- how many plans a turn may build for no pair that it newly knows: one, where there was no memory
abbrev pub spare_by : Turn → ℕ
spare_by Moved = 0
spare_by Idle = 0
spare_by (Blocked target) = 0
spare_by Closed = 0
spare_by Memory = 1

-- all that it does, by the counts of its port
pub record HasGone (job : JobShape) (cells : Cells) (before after : Counted) (old new : StoneWork)
    (count : ℕ) (known later : List Known) (built now : ℕ) (turn : Turn) : Type 0 where
  pub state : HasState job after.taken after.given new
  pub unended : count ≡ count_unended (length job.rounds) new.routes
  pub met : IsMet job new.stone later
  pub keeps : Keeps cells job.formats known later
  pub builds : BuildsFor (spare_by turn) known later built now
  pub turned : StoneGoes job before after old new old.waiting old.hand turn
  pub stone : new.stone ≡ old.stone
  pub routes : length new.routes ≡ length old.routes

-- a stone with this entry in hand: by some port's counts it has its state
pub record Holds (job : JobShape) (work : StoneWork) (entry : Entry) : Type 0 where
  pub taken : Counting
  pub given : Counting
  pub state : HasState job taken given (holding work entry)

-- it dealt with the entry, or there was no memory
abbrev pub IsHandTurn : JobShape → StoneWork → StoneWork → Entry → Turn → Type 0
IsHandTurn job old new entry Moved = HandTurn job (holding old entry) new entry
IsHandTurn job old new entry Idle = ⊥
IsHandTurn job old new entry (Blocked target) = ⊥
IsHandTurn job old new entry Closed = ⊥
IsHandTurn job old new entry Memory = new ≡ holding old entry

-- all that it does with the entry in hand
pub record HandGone (job : JobShape) (cells : Cells) (old new : StoneWork) (entry : Entry)
    (count : ℕ) (known later : List Known) (built now : ℕ) (turn : Turn) : Type 0 where
  pub state : (taken given : Counting) → HasState job taken given (holding old entry)
      → HasState job taken given new
  pub unended : count ≡ count_unended (length job.rounds) new.routes
  pub met : IsMet job new.stone later
  pub keeps : Keeps cells job.formats known later
  pub builds : BuildsFor (spare_by turn) known later built now
  pub turned : IsHandTurn job old new entry turn
  pub stone : new.stone ≡ old.stone
