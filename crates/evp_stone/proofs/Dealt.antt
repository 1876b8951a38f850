-- What was done with the entry in hand, on its route: a lemma for each kind of step.
use Rattle.std.proofs.Common.{◌≡◌, ℕ, Bool, true, false, List, [], ◌∷◌, Option, Some, None, Result, Ok, Err}
use Rattle.std.proofs.Common.{refl, sym, ap, subst, ◌∙◌}
use Rattle.std.specs.Prelude.{if◌then◌else◌, is_err}
use Rattle.std.specs.Arc.{arc_value}
use Rattle.evp_cache.specs.Known.{Cells, Known}
use Rattle.evp_stone.specs.declared.entry.Entry.{Entry}
use Rattle.evp_stone.specs.declared.entry.Entry.TheVariants.{Item, Mark}
use Rattle.evp_stone.specs.Acted.{Learns, IsActedOn}
use Rattle.evp_stone.specs.Dealing.{alone, IsDealt, LearnsNext, HasDealt}
use Rattle.evp_stone.specs.JobShape.{JobShape}
use Rattle.evp_stone.specs.Settling.{HasEnded}
use Rattle.evp_stone.specs.State.{Received, Running, Outlet, RouteWork, StoneWork}
use Rattle.evp_stone.specs.Turning.{Acts, Deals, ActedNext, Ended, turned}

module _ (job : JobShape) (stone : ℕ) (here new : RouteWork) where
  -- a round was ended
  pub mark_dealt : (route position round : ℕ) (waiting : List Entry) → HasEnded round here new waiting
      → IsDealt job stone true here new waiting (Mark route position round) (Ok None)
  mark_dealt route position round waiting ended = record {
    waiting = waiting;
    waits = ended.waits;
    account = ended.account;
    closes = ended.closes;
    is = ap (alone stone waiting None) ended.is;
  }

  -- it is the same where the stone isn't frozen and keeps none
  pub mark_new : (route position round : ℕ) (waiting : List Entry) (result : Result (Option Entry) Entry) → here.kept ≡ []
      → IsDealt job stone true here new waiting (Mark route position round) result
      → IsDealt job stone false here new waiting (Mark route position round) result
  mark_new route position round waiting (Ok hand) none dealt =
      subst (λ (l : List Received). Deals job (alone stone [] (Some (Mark route position round)) here)
      (alone stone waiting hand new) 0 here
      false l (Mark route position round)) (sym none) dealt
  mark_new route position round waiting (Err back) none dealt = dealt

-- the same with these records kept, and with none
abbrev pub keeping_all : RouteWork → List Received → RouteWork
keeping_all here kept = record { route = here.route; outlets = here.outlets; kept = kept; ended = here.ended; running = here.running }

abbrev pub emptied : RouteWork → RouteWork
emptied here = keeping_all here []

module _ (job : JobShape) (stone : ℕ) (here before : RouteWork) (received : Received) (others : List Received) (waiting : List Entry)
    (first : here.kept ≡ received ∷ others) where
  same_act : (outlets : List Outlet) (running : Running) → Acts job stone (emptied here) received waiting outlets running
      → Acts job stone here received waiting outlets running
  same_act outlets running acts c is = let acted = acts c is in record {
    goes = acted.goes;
    sending = acted.sending;
    waits = acted.waits;
    lengthens = acted.lengthens;
    counts = acted.counts;
    delivers = acted.delivers;
  }

  -- it acted on the first record that it keeps, with those put aside
  pub first_dealt : (entry : Entry) (new : RouteWork) → IsActedOn job stone (emptied here) before received waiting
      → new ≡ keeping_all before others → IsDealt job stone false here new waiting entry (Ok (Some entry))
  first_dealt entry new acted is =
      subst (λ (l : List Received). Deals job (alone stone [] (Some entry) here) (alone stone waiting (Some entry) new) 0 here false
      l entry)
      (sym first)
      (record {
        waiting = waiting;
        outlets = acted.outlets;
        running = acted.running;
        acts = same_act acted.outlets acted.running acted.acts;
        is = ap (alone stone waiting (Some entry)) (is ∙ ap (λ (w : RouteWork). keeping_all w others) acted.is);
      })

-- with what is learnt
module _ (job : JobShape) (cells : Cells) (stone : ℕ) (here new : RouteWork) (waiting : List Entry) (known : List Known) (built : ℕ)
    (result : Result (Option Entry) Entry) where
  -- a frozen stone learns nothing
  pub frozen_dealt : (frozen : Bool) (entry : Entry) → frozen ≡ true → IsDealt job stone true here new waiting entry result
      → HasDealt job cells stone frozen here new waiting entry known known built built result
  frozen_dealt true entry is dealt = record { dealt = dealt; learns = (refl, refl) }
  frozen_dealt false entry is dealt = absurd (cc)

  -- nor does one that ends a round
  pub mark_has_dealt : (route position round : ℕ) → here.kept ≡ []
      → IsDealt job stone true here new waiting (Mark route position round) result
      → HasDealt job cells stone false here new waiting (Mark route position round) known known built built result
  mark_has_dealt route position round none dealt = record {
    dealt = mark_new job stone here new route position round waiting result none dealt;
    learns = subst (λ (l : List Received). LearnsNext job cells stone (if is_err result then 1 else 0) known known built built false l
        (Mark route position round)) (sym none) (refl, refl);
  }

-- it learns of the first record that it keeps
pub first_has_dealt : (job : JobShape) (cells : Cells) (stone : ℕ) (here before new : RouteWork) (received : Received)
    (others : List Received) (waiting : List Entry) (entry : Entry) (known later : List Known) (built now : ℕ)
    → here.kept ≡ received ∷ others → IsActedOn job stone (emptied here) before received waiting → new ≡ keeping_all before others
    → Learns job cells stone (arc_value received.1) 0 known later built now
    → HasDealt job cells stone false here new waiting entry known later built now (Ok (Some entry))
first_has_dealt job cells stone here before new received others waiting entry known later built now first acted is learns = record {
  dealt = first_dealt job stone here before received others waiting first entry new acted is;
  learns = subst (λ (l : List Received). LearnsNext job cells stone 0 known later built now false l entry) (sym first) learns;
}

-- the work on the one route, or this where there is none
abbrev sole : RouteWork → StoneWork → RouteWork
sole none work = head work.routes
  where
    head : List RouteWork → RouteWork
    head [] = none
    head (here ∷ others) = here

module _ (job : JobShape) (old : StoneWork) (place : ℕ) (here new : RouteWork) (waiting : List Entry) (hand : Option Entry) where
  abbrev there : StoneWork → StoneWork
  there one = turned old one.waiting one.hand place (sole new one)

  ended_there : (round : ℕ) (held : Option Entry)
      → Ended job (alone old.stone [] held here) (alone old.stone waiting hand new) 0 here round
      → Ended job old (turned old waiting hand place new) place here round
  ended_there round held ended = record {
    waiting = ended.waiting;
    waits = ended.waits;
    account = ended.account;
    closes = ended.closes;
    is = ap there ended.is;
  }

  acted_there : (received : Received) (kept : List Received) (held left : Option Entry)
      → ActedNext job (alone old.stone [] held here) (alone old.stone waiting hand new) 0 here received kept left
      → ActedNext job old (turned old waiting hand place new) place here received kept left
  acted_there received kept held left acted = record {
    waiting = acted.waiting;
    outlets = acted.outlets;
    running = acted.running;
    acts = acted.acts;
    is = ap there acted.is;
  }

  -- the same of a stone with more routes
  pub dealt_there : (frozen : Bool) (kept : List Received) (entry : Entry)
      → Deals job (alone old.stone [] (Some entry) here) (alone old.stone waiting hand new) 0 here frozen kept entry
      → Deals job old (turned old waiting hand place new) place here frozen kept entry
  dealt_there true kept (Item route position index owned) did = ap there did
  dealt_there true kept (Mark route position round) did = ended_there round (Some (Mark route position round)) did
  dealt_there false (received ∷ kept) (Item route position index owned) did =
      acted_there received kept (Some (Item route position index owned)) (Some (Item route position index owned)) did
  dealt_there false (received ∷ kept) (Mark route position round) did =
      acted_there received kept (Some (Mark route position round)) (Some (Mark route position round)) did
  dealt_there false [] (Item route position index owned) did =
      acted_there (index, owned) [] (Some (Item route position index owned)) None did
  dealt_there false [] (Mark route position round) did = ended_there round (Some (Mark route position round)) did
