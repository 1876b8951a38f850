-- What one turn of an actor does: the first case that applies, and nothing else.
use Rattle.std.specs.Prelude.{◌≡◌, ℕ, ◌+◌, List, [], ◌∷◌, Option, Some, None, length}
use Rattle.std.specs.List.{AllByRecursion}
use Rattle.evp_cache.specs.declared.found.Found.{Found}
use Rattle.evp_cache.specs.Known.{found_for}
use Rattle.evp_plan.specs.Counts.{raised}
use Rattle.evp_stone.specs.declared.entry.Entry.{Entry}
use Rattle.evp_stone.specs.declared.turn.Turn.{Turn}
use Rattle.evp_stone.specs.declared.turn.Turn.TheVariants.{Moved, Idle, Blocked, Closed, Memory}
use Rattle.evp_stone.specs.Actor.{Role, feeds, works, ActorShape}
use Rattle.evp_stone.specs.Entries.{StandsForPart, route_of}
use Rattle.evp_stone.specs.Feeding.{SourceWork, to_come}
use Rattle.evp_stone.specs.Flow.{Part}
use Rattle.evp_stone.specs.JobShape.{JobShape}
use Rattle.evp_stone.specs.Port.{Counting, OneMore, LeadsTo, Rose}
use Rattle.evp_stone.specs.Seen.{holding}
use Rattle.evp_stone.specs.State.{RouteWork, StoneWork, round_in}
use Rattle.evp_stone.specs.Turning.{HandTurn}

-- what a port counts: by routes the entries that were taken and given, how often there was nothing
-- to take, and by stones how often there was no room
pub record Counted : Type 0 where
  pub taken : Counting
  pub given : Counting
  pub empties : ℕ
  pub fulls : ℕ → ℕ

abbrev pub counted : Counting → Counting → ℕ → (ℕ → ℕ) → Counted
counted taken given empties fulls =
    record { taken = taken; given = given; empties = empties; fulls = fulls }

module _ (before after : Counted) where
  -- no entry was taken or given
  pub record CountsStay : Type 0 where
    pub taken : (route : ℕ) → after.taken route ≡ before.taken route
    pub given : (route : ℕ) → after.given route ≡ before.given route

  -- this one was given
  pub record OneGiven (entry : Entry) : Type 0 where
    pub taken : (route : ℕ) → after.taken route ≡ before.taken route
    pub given : OneMore before.given after.given entry

  -- this one was taken
  pub record OneTaken (entry : Entry) : Type 0 where
    pub taken : OneMore before.taken after.taken entry
    pub given : (route : ℕ) → after.given route ≡ before.given route

  -- there was no room at the stone to which the entry's route leads
  pub record NoRoom (job : JobShape) (route target : ℕ) : Type 0 where
    pub same : CountsStay
    pub leads : LeadsTo job route target
    pub rose : Rose (before.fulls target) (after.fulls target)

-- the stone with its first waiting entry gone
abbrev pub gone : StoneWork → List Entry → StoneWork
gone work waiting = record {
  stone = work.stone;
  waiting = waiting;
  hand = work.hand;
  routes = work.routes;
}

-- each round of each of its routes has ended
abbrev pub HasEnded : JobShape → StoneWork → Type 0
HasEnded job work =
    AllByRecursion (λ (here : RouteWork). round_in here ≡ length job.rounds) work.routes

module _ (job : JobShape) (before after : Counted) (old new : StoneWork) where
  -- an entry waits to go out, and others behind it
  abbrev pub FirstGoes : Entry → List Entry → Turn → Type 0
  FirstGoes entry others Moved = OneGiven before after entry × (new ≡ gone old others)
  FirstGoes entry others Idle = ⊥
  FirstGoes entry others (Blocked target) =
      NoRoom before after job (route_of entry) target × (new ≡ old)
  FirstGoes entry others Closed = ⊥
  FirstGoes entry others Memory = CountsStay before after × (new ≡ old)

  -- none waits, and an entry is in hand
  abbrev pub HandGoes : Entry → Turn → Type 0
  HandGoes entry Moved = CountsStay before after × HandTurn job old new entry
  HandGoes entry Idle = ⊥
  HandGoes entry (Blocked target) = ⊥
  HandGoes entry Closed = ⊥
  HandGoes entry Memory = CountsStay before after × (new ≡ old)

  -- neither, and the next entry is taken, unless everything is done
  abbrev pub NextComes : Turn → Type 0
  NextComes Moved =
      (HasEnded job old → ⊥)
      × ((entry : Entry) × OneTaken before after entry × (new ≡ holding old entry))
  NextComes Idle =
      (HasEnded job old → ⊥)
      × CountsStay before after × Rose before.empties after.empties × (new ≡ old)
  NextComes (Blocked target) = ⊥
  NextComes Closed = HasEnded job old × CountsStay before after × (new ≡ old)
  NextComes Memory = ⊥

  -- by what waits and what is in hand
  abbrev pub StoneGoes : List Entry → Option Entry → Turn → Type 0
  StoneGoes (entry ∷ others) hand turn = FirstGoes entry others turn
  StoneGoes [] (Some entry) turn = HandGoes entry turn
  StoneGoes [] None turn = NextComes turn

-- a source has given one entry more
pub record OneFed (old new : SourceWork) : Type 0 where
  pub source : new.source ≡ old.source
  pub route : new.route ≡ old.route
  pub given : new.given ≡ old.given + 1

module _ (job : JobShape) (before after : Counted) (old new : SourceWork) where
  -- this part of the flow is next
  abbrev pub PartGoes : Part → Turn → Type 0
  PartGoes part Moved =
      ((entry : Entry) × OneGiven before after entry × (route_of entry ≡ old.route)
      × StandsForPart job.formats entry part) × OneFed old new
  PartGoes part Idle = ⊥
  PartGoes part (Blocked target) = NoRoom before after job old.route target × (new ≡ old)
  PartGoes part Closed = ⊥
  PartGoes part Memory = CountsStay before after × (new ≡ old)

  -- all was given
  abbrev pub NoneGoes : Turn → Type 0
  NoneGoes Moved = ⊥
  NoneGoes Idle = ⊥
  NoneGoes (Blocked target) = ⊥
  NoneGoes Closed = CountsStay before after × (new ≡ old)
  NoneGoes Memory = ⊥

  -- by what it has still to give
  abbrev pub SourceGoes : List Part → Turn → Type 0
  SourceGoes [] turn = NoneGoes turn
  SourceGoes (part ∷ parts) turn = PartGoes part turn

-- an actor stays what it is
abbrev pub RoleGoes : JobShape → Counted → Counted → Role → Role → Turn → Type 0
RoleGoes job before after (feeds old) (feeds new) turn =
    SourceGoes job before after old new (to_come job old) turn
RoleGoes job before after (feeds old) (works new unended) turn = ⊥
RoleGoes job before after (works old unended) (feeds new) turn = ⊥
RoleGoes job before after (works old unended) (works new still) turn =
    StoneGoes job before after old new old.waiting old.hand turn

-- how many turns found no memory, behind this one
abbrev pub starved_by : Turn → ℕ → ℕ
starved_by Moved starved = starved
starved_by Idle starved = starved
starved_by (Blocked target) starved = starved
starved_by Closed starved = starved
starved_by Memory starved = raised starved

pub record HasTurned (job : JobShape) (before after : Counted) (old new : ActorShape) (turn : Turn)
    : Type 0 where
  pub role : RoleGoes job before after old.role new.role turn
  -- what its pass knew stays
  pub known : (from to : ℕ) (found : Found) → found_for old.known from to ≡ Some found
      → found_for new.known from to ≡ Some found
  pub starved : new.starved ≡ starved_by turn old.starved
