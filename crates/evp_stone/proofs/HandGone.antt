-- What a turn with an entry in hand leaves of the whole stone, from what it did on the entry's route.
use Rattle.std.proofs.Common.{◌≡◌, ℕ, zero, suc, ◌<◌, ◌==◌, Bool, true, false, List, [], ◌∷◌, length, set, Option, Some, Ok, Err}
use Rattle.std.proofs.Common.{refl, sym, ap, subst, ◌∙◌, arith}
use Rattle.std.specs.List.{slice_get}
use Rattle.std.specs.Arc.{arc_value}
use Rattle.evp_action.specs.Asking.{Keeps, BuildsFor}
use Rattle.evp_cache.specs.Known.{Cells, Known, IsCacheOf, IsPassOf}
use Rattle.evp_stone.specs.declared.entry.Entry.{Entry}
use Rattle.evp_stone.specs.declared.entry.Entry.TheVariants.{Item, Mark}
use Rattle.evp_stone.specs.declared.turn.Turn.TheVariants.{Moved, Memory}
use Rattle.evp_stone.specs.Acted.{Learns}
use Rattle.evp_stone.specs.Actor.{count_unended}
use Rattle.evp_stone.specs.Dealing.{CanDeal, HasDealt, LearnsNext}
use Rattle.evp_stone.specs.Entries.{route_of}
use Rattle.evp_stone.specs.Job.{IsJob}
use Rattle.evp_stone.specs.JobShape.{JobShape}
use Rattle.evp_stone.specs.Seen.{holding}
use Rattle.evp_stone.specs.State.{Received, RouteWork, StoneWork, HasState, is_frozen, round_in}
use Rattle.evp_stone.specs.StoneTurn.{IsMet, Holds, HandGone}
use Rattle.evp_stone.specs.Turning.{HandTurn, turned}
use Rattle.evp_stone.proofs.CanDeal as deal
use Rattle.evp_stone.proofs.Converting.{still_met}
use Rattle.evp_stone.proofs.Dealt.{dealt_there}
use Rattle.evp_stone.proofs.Due.{IsDue, kept_due, hand_due}
use Rattle.evp_stone.proofs.Turns.{hand_turned}
use Rattle.evp_stone.proofs.Unended.{left, unended_left, some_unended}

-- what an actor knows then
pub record Knows (job : JobShape) (cells : Cells) (stone spare : ℕ) (known later : List Known) (built now : ℕ) : Type 0 where
  pub met : IsMet job stone later
  pub keeps : Keeps cells job.formats known later
  pub builds : BuildsFor spare known later built now

-- the same element again
set_same : {X : Type 0} (xs : List X) (k : ℕ) (x : X) → slice_get xs k ≡ Some x → set xs k x ≡ xs
set_same [] k x at = refl
set_same (y ∷ xs) zero x at = ap (λ z. z ∷ xs) (let is : y ≡ x = cc in sym is)
set_same (y ∷ xs) (suc k) x at = ap (λ zs. y ∷ zs) (set_same xs k x at)

module _ (job : JobShape) (is_job : IsJob job) (old : StoneWork) (entry : Entry) (holds : Holds job old entry) (none : old.waiting ≡ [])
    (place : ℕ) (here : RouteWork) (at : slice_get old.routes place ≡ Some here) (on : route_of entry ≡ here.route) where
  -- it can be dealt with
  pub can_deal : (cells : Cells) (known : List Known) → IsCacheOf cells job.formats → cells.declared ≡ job.declared
      → IsPassOf cells job.formats known → CanDeal job cells known old.stone here entry
  can_deal cells known cache declared pass =
      deal.can_deal job is_job holds.taken holds.given (holding old entry) holds.state none entry refl place here at on cells known
      cache declared pass

  to_come : round_in here < length job.rounds
  to_come = deal.round_to_come job is_job holds.taken holds.given (holding old entry) holds.state none entry refl place here at on

  -- a route has rounds to come
  pub some_left : (count : ℕ) → count ≡ count_unended (length job.rounds) old.routes → 0 < count
  some_left count is = let some = some_unended (length job.rounds) old.routes place here at to_come in omega arith

  module _ (cells : Cells) (spare : ℕ) (known later : List Known) (built now : ℕ) (pass : IsPassOf cells job.formats known)
      (met : IsMet job old.stone known) where
    nothing_learnt : (later ≡ known) × (now ≡ built) → Knows job cells old.stone spare known later built now
    nothing_learnt same = record {
      met = subst (IsMet job old.stone) (sym same.0) met;
      keeps = subst (Keeps cells job.formats known) (sym same.0) (record { right = pass; kept = λ from to earlier is. is });
      builds = let one = ap (λ (l : List Known). length l) same.0 in let two = same.1 in omega arith;
    }

    learnt_of : (owned : _) → IsDue job old.stone owned → Learns job cells old.stone owned spare known later built now
        → Knows job cells old.stone spare known later built now
    learnt_of owned due learns = record {
      met = still_met job old.stone due.c known later due.acts (learns.asks due.c due.that) met;
      keeps = learns.keeps;
      builds = learns.builds;
    }

    learnt : (frozen : Bool) (kept : List Received) (e : Entry) → is_frozen job old.stone (round_in here) ≡ frozen → here.kept ≡ kept
        → entry ≡ e → LearnsNext job cells old.stone spare known later built now frozen kept e
        → Knows job cells old.stone spare known later built now
    learnt true kept e frozen keeps is learns = nothing_learnt learns
    learnt false (received ∷ rest) e thawed keeps is learns =
        learnt_of (arc_value received.1)
        (kept_due job is_job holds.taken holds.given (holding old entry) holds.state none entry refl place here at on thawed received
        rest keeps)
        learns
    learnt false [] (Item number position index owned) thawed keeps is learns =
        learnt_of (arc_value owned)
        (hand_due job is_job holds.taken holds.given (holding old entry) holds.state none entry refl place here at on thawed
        number position index owned is keeps)
        learns
    learnt false [] (Mark number position round) thawed keeps is learns = nothing_learnt learns

    pub learnt_next : LearnsNext job cells old.stone spare known later built now (is_frozen job old.stone (round_in here)) here.kept entry
        → Knows job cells old.stone spare known later built now
    learnt_next learns = learnt (is_frozen job old.stone (round_in here)) here.kept entry refl refl refl learns

  -- it was dealt with
  pub hand_done : (cells : Cells) (new : RouteWork) (waiting : List Entry) (hand : Option Entry) (known later : List Known) (built now : ℕ)
      (count : ℕ) → IsPassOf cells job.formats known → IsMet job old.stone known
      → count ≡ count_unended (length job.rounds) old.routes
      → HasDealt job cells old.stone (is_frozen job old.stone (round_in here)) here new waiting entry known later built now (Ok hand)
      → HandGone job cells old (turned (holding old entry) waiting hand place new) entry (left count (round_in new == length job.rounds))
      known later built now Moved
  hand_done cells new waiting hand known later built now count pass met counts dealt =
      let knows = learnt_next cells 0 known later built now pass met dealt.learns in
      let after = turned (holding old entry) waiting hand place new in
      let turn : HandTurn job (holding old entry) after entry = record {
        place = place;
        here = here;
        at = at;
        on = on;
        deals = dealt_there job (holding old entry) place here new waiting hand (is_frozen job old.stone (round_in here)) here.kept entry
            dealt.dealt;
      } in
      record {
        state = λ taken given state. hand_turned job is_job taken given (holding old entry) after entry state none refl turn;
        unended = unended_left (length job.rounds) old.routes place here new count at to_come counts;
        met = knows.met;
        keeps = knows.keeps;
        builds = knows.builds;
        turned = turn;
        stone = refl;
      }

  -- there was no memory
  pub hand_back : (cells : Cells) (new : RouteWork) (waiting : List Entry) (back : Entry) (known later : List Known) (built now : ℕ)
      (count : ℕ) → IsPassOf cells job.formats known → IsMet job old.stone known
      → count ≡ count_unended (length job.rounds) old.routes
      → HasDealt job cells old.stone (is_frozen job old.stone (round_in here)) here new waiting entry known later built now (Err back)
      → HandGone job cells old (turned (holding old entry) waiting (Some back) place new) entry count known later built now Memory
  hand_back cells new waiting back known later built now count pass met counts dealt =
      let knows = learnt_next cells 1 known later built now pass met dealt.learns in
      let routes : set old.routes place new ≡ old.routes =
      ap (set old.routes place) dealt.dealt.0 ∙ set_same old.routes place here at in
      let same : turned (holding old entry) waiting (Some back) place new ≡ holding old entry =
      ap (λ (w : RouteWork). turned (holding old entry) waiting (Some back) place w) dealt.dealt.0
      ∙ ap (λ (l : List Entry). turned (holding old entry) l (Some back) place here) (dealt.dealt.1 ∙ sym none)
      ∙ ap (λ (e : Entry). turned (holding old entry) old.waiting (Some e) place here) dealt.dealt.2
      ∙ ap (λ (l : List RouteWork). record { stone = old.stone; waiting = old.waiting; hand = Some entry; routes = l })
      (set_same old.routes place here at) in
      record {
        state = λ taken given state. subst (HasState job taken given) (sym same) state;
        unended = counts ∙ ap (count_unended (length job.rounds)) (sym routes);
        met = knows.met;
        keeps = knows.keeps;
        builds = knows.builds;
        turned = same;
        stone = refl;
      }
