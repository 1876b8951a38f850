-- What one turn of a stone's actor does.
use Rattle.std.specs.Prelude.{◌≡◌, ℕ, ◌+◌, Bool, true, false, List, [], ◌∷◌, ◌++◌, length}
use Rattle.std.specs.Prelude.{slice_get, slice_set, Option, Some, None}
use Rattle.std.specs.List.{AllZip}
use Rattle.evp_action.specs.Outcome.{Outcome}
use Rattle.evp_format.specs.Layout.{Layout}
use Rattle.evp_stone.specs.declared.account.RoundAccount.{RoundAccount}
use Rattle.evp_stone.specs.declared.entry.Entry.{Entry}
use Rattle.evp_stone.specs.declared.entry.Entry.TheVariants.{Item, Mark}
use Rattle.evp_stone.specs.Accounts.{act_of}
use Rattle.evp_stone.specs.Carried.{Carried, part_to, outcome_of, part_arrived, part_refused}
use Rattle.evp_stone.specs.Carried.{one_passed, one_dropped}
use Rattle.evp_stone.specs.Entries.{StandsForPart, route_of}
use Rattle.evp_stone.specs.Flow.{item}
use Rattle.evp_stone.specs.JobShape.{JobShape}
use Rattle.evp_stone.specs.Lining.{Sending, an_end, IsOf, AreLined, lengthened}
use Rattle.evp_stone.specs.State.{Received, Running, Outlet}
use Rattle.evp_stone.specs.State.{RouteWork, StoneWork, is_frozen, round_in}
use Rattle.evp_stone.specs.Tallied.{IsReceived}

-- what was done by one record more, of which this came
pub record CountsIn (formats : List Layout) (old new : Running) (c : Carried) (outcome : Outcome)
    : Type 0 where
  pub passed : new.passed ≡ old.passed + one_passed outcome
  pub dropped : new.dropped ≡ old.dropped + one_dropped outcome
  pub refused : new.refused ≡ old.refused ++ part_refused c outcome
  pub received : List Received
  pub arrived : new.arrived ≡ old.arrived ++ received
  pub are : AllZip (IsReceived formats) received (part_arrived c outcome)

-- the account of a round in which this was done and so many are held at its end
pub record Closes (running : Running) (keeps : ℕ) (account : RoundAccount) : Type 0 where
  pub passed : account.passed ≡ running.passed
  pub dropped : account.dropped ≡ running.dropped
  pub refused : account.refused.items ≡ running.refused
  pub arrived : account.arrived.items ≡ running.arrived
  pub held : account.held ≡ keeps

-- nothing was done yet
abbrev pub nothing_done : Running
nothing_done = record { passed = 0; dropped = 0; refused = []; arrived = [] }

-- at a target position what came of a record goes on as such an entry
pub record GoesAs (formats : List Layout) (c : Carried) (outcome : Outcome)
    (sending : Sending) (position : ℕ) : Type 0 where
  pub sent : Carried
  pub is : part_to position c outcome ≡ sent ∷ []
  pub stands : (entry : Entry) → IsOf sending entry → StandsForPart formats entry (item sent)

-- it goes on so at these positions, and at no other
pub record Delivers (formats : List Layout) (c : Carried) (outcome : Outcome) (goes : ℕ → Bool)
    (sending : Sending) : Type 0 where
  pub there : (position : ℕ) → goes position ≡ true → GoesAs formats c outcome sending position
  pub elsewhere : (position : ℕ) → goes position ≡ false → part_to position c outcome ≡ []

abbrev pub everywhere : ℕ → Bool
everywhere position = true

-- the stone acted on a record of the route: what came of it waits to go out, and is counted
pub record ActedOn (job : JobShape) (stone : ℕ) (here : RouteWork) (waiting : List Entry)
    (outlets : List Outlet) (running : Running) (c : Carried) : Type 0 where
  pub goes : ℕ → Bool
  pub sending : Sending
  pub waits : AreLined (IsOf sending) goes 0 here.outlets waiting
  pub lengthens : outlets ≡ lengthened goes 0 here.outlets
  pub counts : CountsIn job.formats here.running running c (outcome_of (act_of job) stone c)
  pub delivers : Delivers job.formats c (outcome_of (act_of job) stone c) goes sending

-- the same, for whatever record on its way this one stands for
abbrev pub Acts : JobShape → ℕ → RouteWork → Received → List Entry → List Outlet → Running
    → Type 0
Acts job stone here received waiting outlets running =
    (c : Carried) → IsReceived job.formats received c
    → ActedOn job stone here waiting outlets running c

-- when a stone has acted on a record of a route and keeps these
abbrev pub acted_on : RouteWork → List Outlet → List Received → Running → RouteWork
acted_on here outlets kept running = record {
  route = here.route;
  outlets = outlets;
  kept = kept;
  ended = here.ended;
  running = running;
}

-- when it keeps one record more
abbrev pub keeping : RouteWork → Received → RouteWork
keeping here received = record {
  route = here.route;
  outlets = here.outlets;
  kept = here.kept ++ received ∷ [];
  ended = here.ended;
  running = here.running;
}

-- when it has ended a round
abbrev pub round_ended : RouteWork → RoundAccount → RouteWork
round_ended here account = record {
  route = here.route;
  outlets = lengthened everywhere 0 here.outlets;
  kept = here.kept;
  ended = here.ended ++ account ∷ [];
  running = nothing_done;
}

-- the same stone, with these entries waiting and in hand, and other work on the route at a place
abbrev pub turned : StoneWork → List Entry → Option Entry → ℕ → RouteWork → StoneWork
turned old waiting hand place new = record {
  stone = old.stone;
  waiting = waiting;
  hand = hand;
  routes = slice_set old.routes place new;
}

module _ (job : JobShape) (old new : StoneWork) (place : ℕ) (here : RouteWork) where
  -- it acted on a record, and keeps these
  pub record ActedNext (received : Received) (kept : List Received) (hand : Option Entry) : Type 0
    where
      pub waiting : List Entry
      pub outlets : List Outlet
      pub running : Running
      pub acts : Acts job old.stone here received waiting outlets running
      pub is : new ≡ turned old waiting hand place (acted_on here outlets kept running)

  -- it ended a round
  pub record Ended (round : ℕ) : Type 0 where
    pub waiting : List Entry
    pub waits : AreLined (IsOf (an_end round)) everywhere 0 here.outlets waiting
    pub account : RoundAccount
    pub closes : Closes here.running (length here.kept) account
    pub is : new ≡ turned old waiting None place (round_ended here account)

  -- What it does with the entry in hand, by whether it is frozen in the round and what it keeps.
  -- Where it isn't frozen, the first record that it keeps comes before the entry.
  abbrev pub Deals : Bool → List Received → Entry → Type 0
  Deals true kept (Item route position index owned) =
      new ≡ turned old [] None place (keeping here (index, owned))
  Deals true kept (Mark route position round) = Ended round
  Deals false (received ∷ kept) entry = ActedNext received kept (Some entry)
  Deals false [] (Item route position index owned) = ActedNext (index, owned) [] None
  Deals false [] (Mark route position round) = Ended round

-- the entry in hand is dealt with, or the first record that is kept on its route
pub record HandTurn (job : JobShape) (old new : StoneWork) (entry : Entry) : Type 0 where
  pub place : ℕ
  pub here : RouteWork
  pub at : slice_get old.routes place ≡ Some here
  pub on : route_of entry ≡ here.route
  pub deals : Deals job old new place here (is_frozen job old.stone (round_in here)) here.kept entry
