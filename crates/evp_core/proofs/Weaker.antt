-- A turn by other counts of empty and full lists, where a rise of the old ones is one of the new ones.
use Rattle.std.proofs.Common.{ℕ, List, [], ◌∷◌, Option, Some, None}
use Rattle.evp_stone.specs.declared.entry.Entry.{Entry}
use Rattle.evp_stone.specs.declared.turn.Turn.{Turn}
use Rattle.evp_stone.specs.declared.turn.Turn.TheVariants.{Moved, Idle, Blocked, Closed, Memory}
use Rattle.evp_stone.specs.Actor.{Role, feeds, works, ActorShape}
use Rattle.evp_stone.specs.Entries.{route_of}
use Rattle.evp_stone.specs.Feeding.{SourceWork, to_come}
use Rattle.evp_stone.specs.Flow.{Part}
use Rattle.evp_stone.specs.JobShape.{JobShape}
use Rattle.evp_stone.specs.Port.{Counting, Rose}
use Rattle.evp_stone.specs.State.{StoneWork}
use Rattle.evp_stone.specs.Turned.{Counted, counted, CountsStay, OneGiven, OneTaken, NoRoom, RoleGoes, StoneGoes, FirstGoes, HandGoes}
use Rattle.evp_stone.specs.Turned.{NextComes, SourceGoes}
use Rattle.evp_stone.specs.Turned.{PartGoes, NoneGoes, HasTurned}

module _ (job : JobShape) (taken now given later : Counting) (empties most none some : ℕ) (fulls all few many : ℕ → ℕ)
    (empty : Rose empties most → Rose none some) (full : (stone : ℕ) → Rose (fulls stone) (all stone)
    → Rose (few stone) (many stone)) where
  abbrev before : Counted
  before = counted taken given empties fulls

  abbrev after : Counted
  after = counted now later most all

  abbrev first : Counted
  first = counted taken given none few

  abbrev last : Counted
  last = counted now later some many

  stays : CountsStay before after → CountsStay first last
  stays s = record { taken = s.taken; given = s.given }

  gives : (entry : Entry) → OneGiven before after entry → OneGiven first last entry
  gives entry s = record { taken = s.taken; given = s.given }

  takes : (entry : Entry) → OneTaken before after entry → OneTaken first last entry
  takes entry s = record { taken = s.taken; given = s.given }

  no_room : (route target : ℕ) → NoRoom before after job route target → NoRoom first last job route target
  no_room route target s = record { same = stays s.same; leads = s.leads; rose = full target s.rose }

  part : (old new : SourceWork) (part : Part) (turn : Turn) → PartGoes job before after old new part turn
      → PartGoes job first last old new part turn
  part old new p Moved goes = ((goes.0.0, gives goes.0.0 goes.0.1, goes.0.2, goes.0.3), goes.1)
  part old new p Idle goes = absurd goes
  part old new p (Blocked target) goes = (no_room old.route target goes.0, goes.1)
  part old new p Closed goes = absurd goes
  part old new p Memory goes = (stays goes.0, goes.1)

  none_goes : (old new : SourceWork) (turn : Turn) → NoneGoes job before after old new turn → NoneGoes job first last old new turn
  none_goes old new Moved goes = absurd goes
  none_goes old new Idle goes = absurd goes
  none_goes old new (Blocked target) goes = absurd goes
  none_goes old new Closed goes = (stays goes.0, goes.1)
  none_goes old new Memory goes = absurd goes

  source : (old new : SourceWork) (parts : List Part) (turn : Turn) → SourceGoes job before after old new parts turn
      → SourceGoes job first last old new parts turn
  source old new [] turn goes = none_goes old new turn goes
  source old new (p ∷ parts) turn goes = part old new p turn goes

  waits : (old new : StoneWork) (entry : Entry) (others : List Entry) (turn : Turn) → FirstGoes job before after old new entry others turn
      → FirstGoes job first last old new entry others turn
  waits old new entry others Moved goes = (gives entry goes.0, goes.1)
  waits old new entry others Idle goes = absurd goes
  waits old new entry others (Blocked target) goes = (no_room (route_of entry) target goes.0, goes.1)
  waits old new entry others Closed goes = absurd goes
  waits old new entry others Memory goes = (stays goes.0, goes.1)

  in_hand : (old new : StoneWork) (entry : Entry) (turn : Turn) → HandGoes job before after old new entry turn
      → HandGoes job first last old new entry turn
  in_hand old new entry Moved goes = (stays goes.0, goes.1)
  in_hand old new entry Idle goes = absurd goes
  in_hand old new entry (Blocked target) goes = absurd goes
  in_hand old new entry Closed goes = absurd goes
  in_hand old new entry Memory goes = (stays goes.0, goes.1)

  next : (old new : StoneWork) (turn : Turn) → NextComes job before after old new turn → NextComes job first last old new turn
  next old new Moved goes = (goes.0, (goes.1.0, takes goes.1.0 goes.1.1, goes.1.2))
  next old new Idle goes = (goes.0, stays goes.1, empty goes.2, goes.3)
  next old new (Blocked target) goes = absurd goes
  next old new Closed goes = (goes.0, stays goes.1, goes.2)
  next old new Memory goes = absurd goes

  stone : (old new : StoneWork) (waiting : List Entry) (hand : Option Entry) (turn : Turn)
      → StoneGoes job before after old new waiting hand turn → StoneGoes job first last old new waiting hand turn
  stone old new (entry ∷ others) hand turn goes = waits old new entry others turn goes
  stone old new [] (Some entry) turn goes = in_hand old new entry turn goes
  stone old new [] None turn goes = next old new turn goes

  role : (old new : Role) (turn : Turn) → RoleGoes job before after old new turn → RoleGoes job first last old new turn
  role (feeds old) (feeds new) turn goes = source old new (to_come job old) turn goes
  role (feeds old) (works new unended) turn goes = absurd goes
  role (works old unended) (feeds new) turn goes = absurd goes
  role (works old unended) (works new still) turn goes = stone old new old.waiting old.hand turn goes

  pub turned_weaker : (old new : ActorShape) (turn : Turn) → HasTurned job before after old new turn
      → HasTurned job first last old new turn
  turned_weaker old new turn turned = record {
    role = role old.role new.role turn turned.role;
    known = turned.known;
    starved = turned.starved;
  }
