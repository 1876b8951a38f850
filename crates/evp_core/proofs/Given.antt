-- What a turn changes: the counts of the actor's own routes, and not from which list it takes.
use Rattle.std.proofs.Common.{◌≡◌, ◌⊎◌, ℕ, List, [], ◌∷◌, Option, Some, None, refl, sym, ap, subst, ◌∙◌, inl, inr, ⊎_elim}
use Rattle.std.proofs.lemmas.Bool.Decides.{eqb_tells}
use Rattle.std.specs.List.{slice_get}
use Rattle.evp_graph.specs.declared.route.Route.{Route}
use Rattle.evp_stone.specs.declared.entry.Entry.{Entry}
use Rattle.evp_stone.specs.declared.turn.Turn.{Turn}
use Rattle.evp_stone.specs.declared.turn.Turn.TheVariants.{Moved, Idle, Blocked, Closed, Memory}
use Rattle.evp_stone.specs.Actor.{Role, feeds, works, HasRole}
use Rattle.evp_stone.specs.Entries.{route_of}
use Rattle.evp_stone.specs.Feeding.{SourceWork, HasFed, to_come}
use Rattle.evp_stone.specs.Flow.{Part}
use Rattle.evp_stone.specs.JobShape.{JobShape}
use Rattle.evp_stone.specs.Opening.{GivesOn}
use Rattle.evp_stone.specs.Port.{Counting, OneMore}
use Rattle.evp_stone.specs.State.{StoneWork, HasState, GoesOut}
use Rattle.evp_stone.specs.Turned.{Counted, RoleGoes, StoneGoes, FirstGoes, HandGoes, NextComes, SourceGoes, PartGoes, NoneGoes}
use Rattle.evp_stone.proofs.Apart.{its_last}
use Rattle.evp_stone.proofs.SameActor.{IsSame}
use Rattle.evp_core.specs.WorldShape.{own_of}

-- the actor gives on the route of this number
pub record GivesAt (job : JobShape) (role : Role) (number : ℕ) : Type 0 where
  pub route : Route
  pub there : slice_get job.routes number ≡ Some route
  pub gives : GivesOn job role route

-- the routes of waiting entries are such
pub waits_on : (job : JobShape) (taken given : Counting) (work : StoneWork) (unended : ℕ) (entry : Entry) (others : List Entry)
    → HasState job taken given work → work.waiting ≡ entry ∷ others → GivesAt job (works work unended) (route_of entry)
waits_on job taken given work unended entry others state waits =
    let out : GoesOut work.routes entry = (rw waits at state.waiting).0 in
    let was = state.each out.place out.work out.here in
    let sent = was.sent out.position out.outlet out.at in
    record {
      route = sent.longer;
      there = ap (slice_get job.routes) (sym out.is) ∙ sent.there;
      gives = record {
        number = out.work.route;
        route = was.route;
        there = was.there;
        last = its_last job work.stone work.routes out.place out.work was.route state.numbers out.here was.there;
        position = out.position;
        goes_on = sent.goes_on;
      };
    }

pub feeds_on : (job : JobShape) (given : Counting) (work : SourceWork) → HasFed job given work → GivesAt job (feeds work) work.route
feeds_on job given work fed = record { route = fed.route; there = fed.there; gives = (fed.source, fed.first) }

-- the count of the route stays, or the actor gives on it
abbrev pub StaysOrGives : JobShape → Counting → Counting → Role → ℕ → Type 0
StaysOrGives job given later role number = (later number ≡ given number) ⊎ GivesAt job role number

one_given : (job : JobShape) (given later : Counting) (role : Role) (entry : Entry) (number : ℕ) → OneMore given later entry
    → GivesAt job role (route_of entry) → StaysOrGives job given later role number
one_given job given later role entry number more gives =
    ⊎_elim (λ e. inr (subst (GivesAt job role) (sym e.1) gives)) (λ e. inl (more.others number e.1))
    (eqb_tells number (route_of entry))

module _ (job : JobShape) (before after : Counted) (number : ℕ) where
  part_gives : (old new : SourceWork) (part : Part) (turn : Turn) → HasFed job before.given old
      → PartGoes job before after old new part turn → StaysOrGives job before.given after.given (feeds old) number
  part_gives old new part Moved fed goes =
      one_given job before.given after.given (feeds old) goes.0.0 number goes.0.1.given
      (subst (GivesAt job (feeds old)) (sym goes.0.2) (feeds_on job before.given old fed))
  part_gives old new part Idle fed goes = absurd goes
  part_gives old new part (Blocked target) fed goes = inl (goes.0.same.given number)
  part_gives old new part Closed fed goes = absurd goes
  part_gives old new part Memory fed goes = inl (goes.0.given number)

  none_gives : (old new : SourceWork) (turn : Turn) → NoneGoes job before after old new turn
      → StaysOrGives job before.given after.given (feeds old) number
  none_gives old new Moved goes = absurd goes
  none_gives old new Idle goes = absurd goes
  none_gives old new (Blocked target) goes = absurd goes
  none_gives old new Closed goes = inl (goes.0.given number)
  none_gives old new Memory goes = absurd goes

  source_gives : (old new : SourceWork) (parts : List Part) (turn : Turn) → HasFed job before.given old
      → SourceGoes job before after old new parts turn → StaysOrGives job before.given after.given (feeds old) number
  source_gives old new [] turn fed goes = none_gives old new turn goes
  source_gives old new (part ∷ parts) turn fed goes = part_gives old new part turn fed goes

  first_gives : (old new : StoneWork) (unended : ℕ) (entry : Entry) (others : List Entry) (turn : Turn)
      → GivesAt job (works old unended) (route_of entry) → FirstGoes job before after old new entry others turn
      → StaysOrGives job before.given after.given (works old unended) number
  first_gives old new unended entry others Moved at goes = one_given job before.given after.given (works old unended) entry number
      goes.0.given at
  first_gives old new unended entry others Idle at goes = absurd goes
  first_gives old new unended entry others (Blocked target) at goes = inl (goes.0.same.given number)
  first_gives old new unended entry others Closed at goes = absurd goes
  first_gives old new unended entry others Memory at goes = inl (goes.0.given number)

  hand_gives : (old new : StoneWork) (unended : ℕ) (entry : Entry) (turn : Turn) → HandGoes job before after old new entry turn
      → StaysOrGives job before.given after.given (works old unended) number
  hand_gives old new unended entry Moved goes = inl (goes.0.given number)
  hand_gives old new unended entry Idle goes = absurd goes
  hand_gives old new unended entry (Blocked target) goes = absurd goes
  hand_gives old new unended entry Closed goes = absurd goes
  hand_gives old new unended entry Memory goes = inl (goes.0.given number)

  next_gives : (old new : StoneWork) (unended : ℕ) (turn : Turn) → NextComes job before after old new turn
      → StaysOrGives job before.given after.given (works old unended) number
  next_gives old new unended Moved goes = inl (goes.1.1.given number)
  next_gives old new unended Idle goes = inl (goes.1.given number)
  next_gives old new unended (Blocked target) goes = absurd goes
  next_gives old new unended Closed goes = inl (goes.1.given number)
  next_gives old new unended Memory goes = absurd goes

  stone_gives : (old new : StoneWork) (unended : ℕ) (waiting : List Entry) (hand : Option Entry) (turn : Turn)
      → ((entry : Entry) (others : List Entry) → waiting ≡ entry ∷ others → GivesAt job (works old unended) (route_of entry))
      → StoneGoes job before after old new waiting hand turn → StaysOrGives job before.given after.given (works old unended) number
  stone_gives old new unended (entry ∷ others) hand turn first goes =
      first_gives old new unended entry others turn (first entry others refl) goes
  stone_gives old new unended [] (Some entry) turn first goes = hand_gives old new unended entry turn goes
  stone_gives old new unended [] None turn first goes = next_gives old new unended turn goes

  pub role_gives : (old new : Role) (turn : Turn) → HasRole job before.taken before.given old → RoleGoes job before after old new turn
      → StaysOrGives job before.given after.given old number
  role_gives (feeds old) (feeds new) turn has goes = source_gives old new (to_come job old) turn has goes
  role_gives (feeds old) (works new unended) turn has goes = absurd goes
  role_gives (works old unended) (feeds new) turn has goes = absurd goes
  role_gives (works old unended) (works new still) turn has goes =
      stone_gives old new unended old.waiting old.hand turn
      (λ entry others waits. waits_on job before.taken before.given old unended entry others has.0 waits) goes

-- an actor takes from the list from which it took
pub own_stays : (old new : Role) → IsSame old new → own_of new ≡ own_of old
own_stays (feeds old) (feeds new) same = refl
own_stays (feeds old) (works new unended) same = absurd same
own_stays (works old unended) (feeds new) same = absurd same
own_stays (works old unended) (works new still) same = ap Some same
