-- The turns of a stone with an entry in hand keep its state.
use Rattle.std.proofs.Common.{◌≡◌, ◌≢◌, ℕ, ◌+◌, Bool, true, false, List, [], ◌∷◌, ◌++◌, Option, Some, None}
use Rattle.std.proofs.Common.{inr}
use Rattle.std.proofs.Common.{refl, sym, ap, subst, ◌∙◌, ne_eqb, true≢false}
use Rattle.std.proofs.lemmas.List.{append-nil}
use Rattle.std.specs.Prelude.{if◌then◌else◌}
use Rattle.std.specs.List.{slice_get, AllZip}
use Rattle.std.specs.declared.sync.Arc.{Arc}
use Rattle.std.specs.declared.alloc.Global.{Global}
use Rattle.evp_record.specs.OwnedBytes.{OwnedBytes}
use Rattle.evp_stone.specs.declared.entry.Entry.{Entry}
use Rattle.evp_stone.specs.declared.entry.Entry.TheVariants.{Item, Mark}
use Rattle.evp_stone.specs.Accounts.{arrivals}
use Rattle.evp_stone.specs.Carried.{Carried}
use Rattle.evp_stone.specs.Entries.{StandsForPart, route_of}
use Rattle.evp_stone.specs.Job.{IsJob}
use Rattle.evp_stone.specs.JobShape.{JobShape}
use Rattle.evp_stone.specs.Lining.{an_end, IsOf, AreLined, lengthened}
use Rattle.evp_stone.specs.Port.{Counting}
use Rattle.evp_stone.specs.Route.{last_stone}
use Rattle.evp_stone.specs.State.{Received, Running, Outlet, RouteWork, StoneWork}
use Rattle.evp_stone.specs.State.{HasWorked, IsLastTaken, HasState, in_hand, is_frozen, round_in}
use Rattle.evp_stone.specs.Tallied.{IsReceived}
use Rattle.evp_stone.specs.Turning.{everywhere, ActedOn, ActedNext, Ended, Deals, HandTurn, keeping, acted_on, round_ended, turned}
use Rattle.evp_stone.proofs.ActStep.{acts_kept, acts_new, keeps, round_ends, KeptFirst, kept_first}
use Rattle.evp_stone.proofs.Apart.{its_last}
use Rattle.evp_stone.proofs.Change.{changed}
use Rattle.evp_stone.proofs.HandStep.{StandsAt, HoldsItem, held_part, held_next, holds_item, holds_mark}
use Rattle.evp_stone.proofs.JobFacts.{routes_apart, ends_at}
use Rattle.evp_stone.proofs.Routes.{HasEnds}

-- something else is in hand than the entry of this route: for other routes no matter
pub hand_moves : (route here : ℕ) (entry : Entry) → route_of entry ≡ here → route ≢ here
    → in_hand route (Some entry) ≡ in_hand route None
hand_moves route here entry on apart =
    ap (λ (b : Bool). if b then 1 else 0) (ne_eqb (route_of entry) route (λ e. apart (sym e ∙ on)))

abbrev pub never : ℕ → Bool
never position = false

pub lengthened-never : (first : ℕ) (outlets : List Outlet) → outlets ≡ lengthened never first outlets
lengthened-never first [] = refl
lengthened-never first (o ∷ outlets) = ap (λ (l : List Outlet). o ∷ l) (lengthened-never (first + 1) outlets)

pub lined-never : (IsOne : Entry → Type 0) (first : ℕ) (outlets : List Outlet) → AreLined IsOne never first outlets []
lined-never IsOne first [] = refl
lined-never IsOne first (o ∷ outlets) = inr (refl, lined-never IsOne (first + 1) outlets)

module _ (job : JobShape) (is_job : IsJob job) (taken given : Counting) (old : StoneWork) (state : HasState job taken given old)
    (none : old.waiting ≡ []) (entry : Entry) (in_it : old.hand ≡ Some entry) (place : ℕ) (here : RouteWork)
    (at : slice_get old.routes place ≡ Some here) (on : route_of entry ≡ here.route) where
  pub was : HasWorked job taken given (Some entry) [] here
  was = subst (λ (h : Option Entry). HasWorked job taken given h [] here) in_it
      (subst (λ (l : List Entry). HasWorked job taken given old.hand l here) none (state.each place here at))

  pub ends : HasEnds was.route
  ends = ends_at job is_job here.route was.route was.there

  last : IsLastTaken job taken old.routes entry
  last = state.hand entry in_it

  pub stands : StandsAt job was.route was.handled entry
  stands = held_part job taken given [] here entry was on last.count last.placed

  pub its : last_stone was.route ≡ old.stone
  its = its_last job old.stone old.routes place here was.route state.numbers at was.there

  empties : (e : Entry) → None ≡ Some e → old.hand ≡ Some e
  empties e absurdly = absurd (cc)

  others : (route : ℕ) → route ≢ here.route → in_hand route old.hand ≡ in_hand route None
  others route apart = ap (in_hand route) in_it ∙ hand_moves route here.route entry on apart

  pub frozen_is : (b : Bool) → is_frozen job old.stone (round_in here) ≡ b → is_frozen job (last_stone was.route) (round_in here) ≡ b
  frozen_is b is = ap (λ (stone : ℕ). is_frozen job stone (round_in here)) its ∙ is

  -- the record in hand is the next of its round
  pub holds_of : (number position index : ℕ) (owned : Arc OwnedBytes Global) → entry ≡ Item number position index owned
      → HoldsItem job was.route (round_in here) was.handled was.new index owned
  holds_of number position index owned is =
      holds_item job was.route (round_in here) was.handled was.new number position index owned stands.part
      (subst (λ (e : Entry). StandsForPart job.formats e stands.part) is stands.stands)
      (held_next job taken given [] here entry was stands)

  -- the record in hand is kept
  turn_keeps : (number position index : ℕ) (owned : Arc OwnedBytes Global) → entry ≡ Item number position index owned
      → is_frozen job old.stone (round_in here) ≡ true
      → HasState job taken given (turned old [] None place (keeping here (index, owned)))
  turn_keeps number position index owned is frozen =
      let holds = holds_of number position index owned is in
      changed job taken given old state none (routes_apart job is_job) place here (keeping here (index, owned)) at never
      (IsOf (an_end 0)) []
      (record { route = refl; outlets = lengthened-never 0 here.outlets; waits = lined-never (IsOf (an_end 0)) 0 here.outlets })
      None empties others
      (keeps job taken given entry here was ends on index owned holds (frozen_is true frozen))

  -- what comes in the round from the entry in hand on
  pub later_of : (e : Entry) → entry ≡ e
      → (later : List Carried) × (slice_get (arrivals job was.route) (round_in here) ≡ Some (was.new ++ later))
  later_of (Item number position index owned) is =
      let holds = holds_of number position index owned is in
      (holds.c ∷ holds.later, holds.there)
  later_of (Mark number position round) is =
      let holds = holds_mark job was.route (round_in here) was.new number position round stands.part
      (subst (λ (e : Entry). StandsForPart job.formats e stands.part) is stands.stands)
      (held_next job taken given [] here entry was stands) in
      ([], holds.there ∙ ap (λ (l : List Carried). Some l) (sym (append-nil was.new)))

  -- what it did with a record, as the last stone of the route
  as_last : (waiting : List Entry) (outlets : List Outlet) (running : Running) (c : Carried)
      → ActedOn job old.stone here waiting outlets running c → ActedOn job (last_stone was.route) here waiting outlets running c
  as_last waiting outlets running c acted =
      subst (λ (stone : ℕ). ActedOn job stone here waiting outlets running c) (sym its) acted

  -- what it made of the route, where that was acted on
  made_of : (held : Option Entry) (waiting : List Entry) (outlets : List Outlet) (kept : List Received) (running : Running)
      (goes : ℕ → Bool) → outlets ≡ lengthened goes 0 here.outlets
      → HasWorked job taken given held waiting (acted_on here (lengthened goes 0 here.outlets) kept running)
      → HasWorked job taken given held waiting (acted_on here outlets kept running)
  made_of held waiting outlets kept running goes lengthens made =
      subst (λ (l : List Outlet). HasWorked job taken given held waiting (acted_on here l kept running)) (sym lengthens) made

  -- it acts on the first record that it keeps
  turn_kept : (new : StoneWork) (received : Received) (rest : List Received) → is_frozen job old.stone (round_in here) ≡ false
      → here.kept ≡ received ∷ rest → ActedNext job old new place here received rest (Some entry) → HasState job taken given new
  turn_kept new received rest thawed kept next =
      let first : KeptFirst job received rest was.kept =
      kept_first job received rest was.kept (subst (λ (l : List Received). AllZip (IsReceived job.formats) l was.kept) kept was.stored) in
      let acted = as_last next.waiting next.outlets next.running first.c (next.acts first.c first.that) in
      let later = later_of entry refl in
      let made = acts_kept job taken given (Some entry) here was ends first.c acted.goes acted.sending next.waiting rest first.others
      later.0 next.running
      first.is first.stored (frozen_is false thawed) later.1 acted.counts acted.delivers acted.waits in
      subst (HasState job taken given) (sym next.is)
      (changed job taken given old state none (routes_apart job is_job) place here (acted_on here next.outlets rest next.running) at
      acted.goes (IsOf acted.sending) next.waiting
      (record { route = refl; outlets = acted.lengthens; waits = acted.waits })
      (Some entry) (λ e same. in_it ∙ same) (λ route apart. ap (in_hand route) in_it)
      (made_of (Some entry) next.waiting next.outlets rest next.running acted.goes acted.lengthens made))

  -- it acts on the record in hand
  turn_new : (new : StoneWork) (number position index : ℕ) (owned : Arc OwnedBytes Global) → entry ≡ Item number position index owned
      → is_frozen job old.stone (round_in here) ≡ false → here.kept ≡ []
      → ActedNext job old new place here (index, owned) [] None → HasState job taken given new
  turn_new new number position index owned is thawed kept next =
      let holds = holds_of number position index owned is in
      let acted = as_last next.waiting next.outlets next.running holds.c (next.acts holds.c (holds.index_is, holds.that)) in
      let made = acts_new job taken given entry here was ends on index owned acted.goes acted.sending next.waiting next.running holds
      (frozen_is false thawed) kept acted.counts acted.delivers acted.waits in
      subst (HasState job taken given) (sym next.is)
      (changed job taken given old state none (routes_apart job is_job) place here (acted_on here next.outlets [] next.running) at
      acted.goes (IsOf acted.sending) next.waiting
      (record { route = refl; outlets = acted.lengthens; waits = acted.waits })
      None empties others
      (made_of None next.waiting next.outlets [] next.running acted.goes acted.lengthens made))

  -- it ends the round
  turn_ends : (new : StoneWork) (number position round : ℕ) → entry ≡ Mark number position round
      → (is_frozen job old.stone (round_in here) ≡ false → here.kept ≡ [])
      → Ended job old new place here round → HasState job taken given new
  turn_ends new number position round is all ended =
      let holds = holds_mark job was.route (round_in here) was.new number position round stands.part
      (subst (λ (e : Entry). StandsForPart job.formats e stands.part) is stands.stands)
      (held_next job taken given [] here entry was stands) in
      let back : is_frozen job (last_stone was.route) (round_in here) ≡ false → here.kept ≡ [] = λ thawed.
      all (ap (λ (stone : ℕ). is_frozen job stone (round_in here)) (sym its) ∙ thawed) in
      let lined : AreLined (IsOf (an_end (round_in here))) everywhere 0 here.outlets ended.waiting =
      subst (λ (n : ℕ). AreLined (IsOf (an_end n)) everywhere 0 here.outlets ended.waiting) holds.is ended.waits in
      subst (HasState job taken given) (sym ended.is)
      (changed job taken given old state none (routes_apart job is_job) place here (round_ended here ended.account) at
      everywhere (IsOf (an_end (round_in here))) ended.waiting
      (record { route = refl; outlets = refl; waits = lined })
      None empties others
      (round_ends job taken given entry here was ends on round ended.waiting ended.account holds back lined ended.closes))

  true_false : true ≡ false → ⊥
  true_false e = true≢false e

  -- whatever it does with the entry in hand
  deals : (new : StoneWork) (frozen : Bool) (kept : List Received) (e : Entry) → entry ≡ e
      → is_frozen job old.stone (round_in here) ≡ frozen → here.kept ≡ kept → Deals job old new place here frozen kept e
      → HasState job taken given new
  deals new true kept (Item number position index owned) is frozen keeps_ did =
      subst (HasState job taken given) (sym did) (turn_keeps number position index owned is frozen)
  deals new true kept (Mark number position round) is frozen keeps_ did =
      turn_ends new number position round is (λ thawed. absurd (true_false (sym frozen ∙ thawed))) did
  deals new false (received ∷ rest) (Item number position index owned) is frozen keeps_ did =
      turn_kept new received rest frozen keeps_
      (subst (λ (e : Entry). ActedNext job old new place here received rest (Some e)) (sym is) did)
  deals new false (received ∷ rest) (Mark number position round) is frozen keeps_ did =
      turn_kept new received rest frozen keeps_
      (subst (λ (e : Entry). ActedNext job old new place here received rest (Some e)) (sym is) did)
  deals new false [] (Item number position index owned) is frozen keeps_ did =
      turn_new new number position index owned is frozen keeps_ did
  deals new false [] (Mark number position round) is frozen keeps_ did =
      turn_ends new number position round is (λ thawed. keeps_) did

  pub dealt : (new : StoneWork) → Deals job old new place here (is_frozen job old.stone (round_in here)) here.kept entry
      → HasState job taken given new
  dealt new did = deals new (is_frozen job old.stone (round_in here)) here.kept entry refl refl refl did

-- a turn with the entry in hand keeps the state
pub hand_turned : (job : JobShape) → IsJob job → (taken given : Counting) (old new : StoneWork) (entry : Entry)
    → HasState job taken given old → old.waiting ≡ [] → old.hand ≡ Some entry → HandTurn job old new entry
    → HasState job taken given new
hand_turned job is_job taken given old new entry state none in_it turn =
    dealt job is_job taken given old state none entry in_it turn.place turn.here turn.at turn.on new turn.deals
