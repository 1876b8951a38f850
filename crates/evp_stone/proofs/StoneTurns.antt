-- One turn of a stone's actor, by what it did first.
use Rattle.std.proofs.Common.{◌≡◌, ℕ, List, [], ◌∷◌, length, Option, Some, None}
use Rattle.std.proofs.Common.{refl, sym, ap, subst, ◌∙◌, arith}
use Rattle.std.proofs.lemmas.List.{length-map}
use Rattle.evp_cache.specs.Known.{Cells, Known, IsPassOf}
use Rattle.evp_stone.specs.declared.entry.Entry.{Entry}
use Rattle.evp_stone.specs.declared.turn.Turn.{Turn}
use Rattle.evp_stone.specs.declared.turn.Turn.TheVariants.{Moved, Idle, Blocked, Closed, Memory}
use Rattle.evp_stone.specs.Actor.{count_unended}
use Rattle.evp_stone.specs.JobShape.{JobShape}
use Rattle.evp_stone.specs.Port.{Counting}
use Rattle.evp_stone.specs.Seen.{holding}
use Rattle.evp_stone.specs.State.{RouteWork, StoneWork, HasState}
use Rattle.evp_stone.specs.StoneTurn.{IsMet, HasGone, HandGone, IsHandTurn}
use Rattle.evp_stone.specs.Tallied.{routes_at}
use Rattle.evp_stone.specs.Turned.{Counted, StoneGoes, NextComes}
use Rattle.evp_stone.proofs.Unended.{has_ended}

-- a stone works on as many routes as end there
same_many : (job : JobShape) (taken given now later : Counting) (old new : StoneWork) → HasState job taken given old
    → HasState job now later new → new.stone ≡ old.stone → length new.routes ≡ length old.routes
same_many job taken given now later old new was is stone =
    let route : RouteWork → ℕ = λ (w : RouteWork). w.route in
    sym (length-map new.routes route) ∙ ap length (is.numbers ∙ ap (routes_at job) stone ∙ sym was.numbers) ∙ length-map old.routes route

module _ (job : JobShape) (cells : Cells) (before after : Counted) (old new : StoneWork) (known : List Known) (built : ℕ) where
  -- on no route was anything done
  pub untouched_gone : (count : ℕ) (turn : Turn) → HasState job before.taken before.given old → HasState job after.taken after.given new
      → count ≡ count_unended (length job.rounds) old.routes → IsMet job old.stone known → IsPassOf cells job.formats known
      → new.stone ≡ old.stone → new.routes ≡ old.routes → StoneGoes job before after old new old.waiting old.hand turn
      → HasGone job cells before after old new count known known built built turn
  untouched_gone count turn was state counts met pass stone routes goes = record {
    state = state;
    unended = counts ∙ ap (count_unended (length job.rounds)) (sym routes);
    met = subst (λ (n : ℕ). IsMet job n known) (sym stone) met;
    keeps = record { right = pass; kept = λ from to earlier is. is };
    builds = omega arith;
    turned = goes;
    stone = stone;
    routes = ap length routes;
  }

-- none waits and none is in hand, so the next one comes
next_stone : (job : JobShape) (before after : Counted) (old new : StoneWork) (turn : Turn)
    → NextComes job before after old new turn → new.stone ≡ old.stone
next_stone job before after old new Moved did = ap (λ (w : StoneWork). w.stone) did.1.2
next_stone job before after old new Idle did = ap (λ (w : StoneWork). w.stone) did.3
next_stone job before after old new (Blocked target) did = absurd did
next_stone job before after old new Closed did = ap (λ (w : StoneWork). w.stone) did.2
next_stone job before after old new Memory did = absurd did

next_routes : (job : JobShape) (before after : Counted) (old new : StoneWork) (turn : Turn)
    → NextComes job before after old new turn → new.routes ≡ old.routes
next_routes job before after old new Moved did = ap (λ (w : StoneWork). w.routes) did.1.2
next_routes job before after old new Idle did = ap (λ (w : StoneWork). w.routes) did.3
next_routes job before after old new (Blocked target) did = absurd did
next_routes job before after old new Closed did = ap (λ (w : StoneWork). w.routes) did.2
next_routes job before after old new Memory did = absurd did

goes_next : (job : JobShape) (before after : Counted) (old new : StoneWork) (turn : Turn) (waiting : List Entry) (hand : Option Entry)
    → waiting ≡ [] → hand ≡ None → NextComes job before after old new turn → StoneGoes job before after old new waiting hand turn
goes_next job before after old new turn [] None none empty did = did
goes_next job before after old new turn [] (Some entry) none empty did = absurd (cc)
goes_next job before after old new turn (entry ∷ others) hand none empty did = absurd (cc)

pub next_gone : (job : JobShape) (cells : Cells) (before after : Counted) (old new : StoneWork) (known : List Known)
    (built count : ℕ) (turn : Turn) → old.waiting ≡ [] → old.hand ≡ None → HasState job before.taken before.given old
    → HasState job after.taken after.given new → count ≡ count_unended (length job.rounds) old.routes → IsMet job old.stone known
    → IsPassOf cells job.formats known → NextComes job before after old new turn
    → HasGone job cells before after old new count known known built built turn
next_gone job cells before after old new known built count turn none empty was state counts met pass did =
    untouched_gone job cells before after old new known built count turn was state counts met pass
    (next_stone job before after old new turn did) (next_routes job before after old new turn did)
    (goes_next job before after old new turn old.waiting old.hand none empty did)

-- everything is done
pub all_done : (job : JobShape) (counts : Counted) (work : StoneWork) → count_unended (length job.rounds) work.routes ≡ 0
    → NextComes job counts counts work work Closed
all_done job counts work none = (has_ended job work none, record { taken = λ route. refl; given = λ route. refl }, refl)

-- none waits, and an entry is in hand
hand_goes : (job : JobShape) (counts : Counted) (old new : StoneWork) (entry : Entry) (turn : Turn) (waiting : List Entry)
    → waiting ≡ [] → IsHandTurn job old new entry turn → StoneGoes job counts counts (holding old entry) new waiting (Some entry) turn
hand_goes job counts old new entry Moved [] none did = (record { taken = λ route. refl; given = λ route. refl }, did)
hand_goes job counts old new entry Idle [] none did = absurd did
hand_goes job counts old new entry (Blocked target) [] none did = absurd did
hand_goes job counts old new entry Closed [] none did = absurd did
hand_goes job counts old new entry Memory [] none did = (record { taken = λ route. refl; given = λ route. refl }, did)
hand_goes job counts old new entry turn (e ∷ others) none did = absurd (cc)

pub hand_gone : (job : JobShape) (cells : Cells) (counts : Counted) (old mid new : StoneWork) (entry : Entry) (known later : List Known)
    (built now count : ℕ) (turn : Turn) → old ≡ holding mid entry → mid.waiting ≡ []
    → HasState job counts.taken counts.given old → HandGone job cells mid new entry count known later built now turn
    → HasGone job cells counts counts old new count known later built now turn
hand_gone job cells counts old mid new entry known later built now count turn is none was gone =
    let holds = subst (HasState job counts.taken counts.given) is was in
    let state = gone.state counts.taken counts.given holds in
    subst (λ (w : StoneWork). HasGone job cells counts counts w new count known later built now turn) (sym is) (record {
      state = state;
      unended = gone.unended;
      met = gone.met;
      keeps = gone.keeps;
      builds = gone.builds;
      turned = hand_goes job counts mid new entry turn mid.waiting none gone.turned;
      stone = gone.stone;
      routes = same_many job counts.taken counts.given counts.taken counts.given (holding mid entry) new holds state gone.stone;
    })
