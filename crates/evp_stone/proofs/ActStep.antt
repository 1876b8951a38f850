-- What a stone does with one record, or at the end of a round: what holds of the route then.
use Rattle.std.proofs.Common.{◌≡◌, ℕ, suc, ◌+◌, Bool, true, false, List, [], ◌∷◌, ◌++◌, length, Option, Some, None}
use Rattle.std.proofs.Common.{refl, sym, ap, subst, ◌∙◌, arith, add-one, add-zero, inl, inr, ⊎_elim, length-append}
use Rattle.std.proofs.lemmas.Bool.{eq-eqb}
use Rattle.std.proofs.lemmas.List.{append-nil}
use Rattle.std.specs.Prelude.{if◌then◌else◌, ◌⊎◌}
use Rattle.std.specs.List.{slice_get, AllZip}
use Rattle.std.specs.declared.sync.Arc.{Arc}
use Rattle.std.specs.declared.alloc.Global.{Global}
use Rattle.evp_queue.specs.Flow.{entries_of}
use Rattle.evp_stone.specs.declared.entry.Entry.TheVariants.{Item, Mark}
use Rattle.evp_record.specs.OwnedBytes.{OwnedBytes}
use Rattle.evp_stone.specs.declared.account.RoundAccount.{RoundAccount}
use Rattle.evp_stone.specs.declared.entry.Entry.{Entry}
use Rattle.evp_stone.specs.Accounts.{act_of, arrivals, rounds_of}
use Rattle.evp_stone.specs.Carried.{Carried, outcome_of}
use Rattle.evp_stone.specs.Entries.{StandsForPart, route_of}
use Rattle.evp_stone.specs.Flow.{mark}
use Rattle.evp_stone.specs.JobShape.{JobShape}
use Rattle.evp_stone.specs.Lining.{Sending, an_end, IsOf, AreLined, lengthened, one_more}
use Rattle.evp_stone.specs.Port.{Counting}
use Rattle.evp_stone.specs.Route.{last_stone}
use Rattle.evp_stone.specs.Rounds.{round_of}
use Rattle.evp_stone.specs.State.{Running, Outlet, RouteWork, Works, HasSent, HasWorked, in_hand, round_in, is_frozen, held_before}
use Rattle.evp_stone.specs.Tallied.{IsReceived, IsTallied}
use Rattle.evp_stone.specs.Tally.{account_of}
use Rattle.evp_stone.proofs.Change.{outlets_apart}
use Rattle.evp_stone.proofs.Fronts.{front_record, front_end}
use Rattle.evp_stone.proofs.HandStep.{HoldsItem, HoldsMark}
use Rattle.evp_stone.proofs.JobFacts.{round_there, round_below}
use Rattle.evp_stone.proofs.Lined.{Was, was_outlet, Found, one_lined, length-lengthened}
use Rattle.evp_stone.proofs.Outlets.{passes_by, goes_there, end_goes}
use Rattle.evp_stone.proofs.Routes.{HasEnds}
use Rattle.evp_stone.specs.Turning.{CountsIn, Closes, Delivers, everywhere, acted_on, keeping, round_ended}
use Rattle.evp_stone.proofs.Tallies.{tallied_none, zip_append, tallied_more, tallied_end, ended_more}
use Rattle.evp_stone.proofs.Works.{ActsNext, next_kept, next_new, works_kept, works_first, works_new, works_end, held_at}

mark_stands : (job : JobShape) (round : ℕ) (entry : Entry) → IsOf (an_end round) entry → StandsForPart job.formats entry (mark round)
mark_stands job round (Item route position index owned) is = absurd is
mark_stands job round (Mark route position ended) is = is

bool_cases : (b : Bool) → (b ≡ true) ⊎ (b ≡ false)
bool_cases true = inl refl
bool_cases false = inr refl

module _ (job : JobShape) (taken given : Counting) (hand : Option Entry) (here : RouteWork)
    (was : HasWorked job taken given hand [] here) (ends : HasEnds was.route) where
  abbrev round : ℕ
  round = round_in here

  abbrev stone : ℕ
  stone = last_stone was.route

  -- what is sent on of one record
  sends : (c : Carried) (goes : ℕ → Bool) (sending : Sending) (waiting : List Entry)
      → ActsNext (rounds_of job was.route) round was.done c
      → Delivers job.formats c (outcome_of (act_of job) stone c) goes sending
      → AreLined (IsOf sending) goes 0 here.outlets waiting
      → (position : ℕ) (outlet : Outlet) → slice_get (lengthened goes 0 here.outlets) position ≡ Some outlet
      → HasSent job given waiting was.route round (was.done ++ c ∷ []) position outlet
  sends c goes sending waiting next delivers lined position outlet at =
      let found : Was goes 0 position here.outlets outlet = was_outlet goes 0 position here.outlets outlet at in
      let old : Outlet = found.old in
      let before = was.sent position old found.there in
      let waits : Found (IsOf sending) goes (goes (0 + position)) old (entries_of route_of old.route waiting) =
      one_lined (IsOf sending) goes 0 position here.outlets waiting old (outlets_apart job taken given hand [] here was) lined
      found.there in
      let zero_is : 0 + position ≡ position = omega arith in
      let Sent : Outlet → Type 0 = λ (o : Outlet).
      HasSent job given waiting was.route round (was.done ++ c ∷ []) position o in
      ⊎_elim (λ yes'.
      let here_goes : goes position ≡ true = ap goes (sym zero_is) ∙ yes' in
      let part = delivers.there position here_goes in
      let one : Found (IsOf sending) goes true old (entries_of route_of old.route waiting) =
      subst (λ (b : Bool). Found (IsOf sending) goes b old (entries_of route_of old.route waiting)) yes' waits in
      subst Sent (ap (λ (b : Bool). if b then one_more old else old) (sym yes') ∙ sym found.how)
      (goes_there job given was.route position old ends round was.done c part.sent waiting one.0 next before part.is
      one.1 one.2.on one.2.at (part.stands one.0 one.2.is)))
      (λ no'.
      let here_not : goes position ≡ false = ap goes (sym zero_is) ∙ no' in
      let none : Found (IsOf sending) goes false old (entries_of route_of old.route waiting) =
      subst (λ (b : Bool). Found (IsOf sending) goes b old (entries_of route_of old.route waiting)) no' waits in
      subst Sent (ap (λ (b : Bool). if b then one_more old else old) (sym no') ∙ sym found.how)
      (passes_by job given was.route position old ends round was.done c waiting before (delivers.elsewhere position here_not) none))
      (bool_cases (goes (0 + position)))

  -- where the stone isn't frozen in the round: what it acted on and keeps, and what it acts on in all
  thawed_works : (kept : List Carried) → was.kept ≡ kept → is_frozen job stone round ≡ false
      → Works false (held_before job was.route round ++ was.new) was.done kept
  thawed_works kept is thawed =
      let records = held_before job was.route round ++ was.new in
      subst (λ (l : List Carried). Works false records was.done l) is
      (subst (λ (b : Bool). Works b records was.done was.kept) thawed was.works)

  thawed_round : (came : List Carried) → slice_get (arrivals job was.route) round ≡ Some came → is_frozen job stone round ≡ false
      → slice_get (rounds_of job was.route) round ≡ Some (round_of false (held_before job was.route round ++ came))
  thawed_round came there thawed =
      round_there job was.route ends round came there
      ∙ ap (λ (b : Bool). Some (round_of b (held_before job was.route round ++ came))) thawed

  -- the first record that it keeps is the one on which it acts next
  pub next_of_kept : (c : Carried) (others later : List Carried) → was.kept ≡ c ∷ others → is_frozen job stone round ≡ false
      → slice_get (arrivals job was.route) round ≡ Some (was.new ++ later) → ActsNext (rounds_of job was.route) round was.done c
  next_of_kept c others later kept thawed came =
      next_kept (rounds_of job was.route) round (held_before job was.route round) was.new later was.done others c
      (thawed_round (was.new ++ later) came thawed) (thawed_works (c ∷ others) kept thawed)

  -- or, where it keeps none, the next one that comes
  pub next_of_new : (c : Carried) (later : List Carried) → was.kept ≡ [] → is_frozen job stone round ≡ false
      → slice_get (arrivals job was.route) round ≡ Some (was.new ++ c ∷ later) → ActsNext (rounds_of job was.route) round was.done c
  next_of_new c later none thawed came =
      next_new (rounds_of job was.route) round (held_before job was.route round) was.new later was.done c
      (thawed_round (was.new ++ c ∷ later) came thawed) (thawed_works [] none thawed)

  -- it acts on the first record that it keeps
  pub acts_kept : (c : Carried) (goes : ℕ → Bool) (sending : Sending) (waiting : List Entry) (rest : List (ℕ × Arc OwnedBytes Global))
      (others later : List Carried) (running : Running)
      → was.kept ≡ c ∷ others → AllZip (IsReceived job.formats) rest others
      → is_frozen job stone round ≡ false
      → slice_get (arrivals job was.route) round ≡ Some (was.new ++ later)
      → CountsIn job.formats here.running running c (outcome_of (act_of job) stone c)
      → Delivers job.formats c (outcome_of (act_of job) stone c) goes sending
      → AreLined (IsOf sending) goes 0 here.outlets waiting
      → HasWorked job taken given hand waiting (acted_on here (lengthened goes 0 here.outlets) rest running)
  acts_kept c goes sending waiting rest others later running kept stored thawed came counts delivers lined =
      let records = held_before job was.route round ++ was.new in
      let next = next_of_kept c others later kept thawed came in
      record {
        route = was.route;
        there = was.there;
        handled = was.handled;
        new = was.new;
        count = was.count;
        came = was.came;
        rounds = was.rounds;
        done = was.done ++ c ∷ [];
        kept = others;
        works = subst (λ (b : Bool). Works b records (was.done ++ c ∷ []) others) (sym thawed)
            (works_first records was.done others c (thawed_works (c ∷ others) kept thawed));
        stored = stored;
        ended = was.ended;
        running = tallied_more job.formats (act_of job) stone here.running running was.done c was.running counts;
        outlets = length-lengthened goes 0 here.outlets ∙ was.outlets;
        sent = sends c goes sending waiting next delivers lined;
      }

-- a count where an entry in hand is of the route, once it is dealt with
put_down : (taken : Counting) (route handled : ℕ) (entry : Entry) → route_of entry ≡ route
    → taken route ≡ Some (handled + in_hand route (Some entry)) → taken route ≡ Some (handled + 1 + in_hand route None)
put_down taken route handled entry on was =
    was ∙ ap (λ (b : Bool). Some (handled + (if b then 1 else 0))) (eq-eqb (route_of entry) route on)
    ∙ ap Some (sym (add-zero (handled + 1)))

pub none_stored : {A B : Type 0} (R : A → B → Type 0) (ys : List B) → AllZip R [] ys → ys ≡ []
none_stored R [] all = refl
none_stored R (y ∷ ys) all = absurd all

pub same_length : {A B : Type 0} (R : A → B → Type 0) (xs : List A) (ys : List B) → AllZip R xs ys → length xs ≡ length ys
same_length R [] [] all = refl
same_length R [] (y ∷ ys) all = absurd all
same_length R (x ∷ xs) [] all = absurd all
same_length R (x ∷ xs) (y ∷ ys) all = ap suc (same_length R xs ys all.1)

-- what is kept first
pub record KeptFirst (job : JobShape) (received : ℕ × Arc OwnedBytes Global) (rest : List (ℕ × Arc OwnedBytes Global))
    (kept : List Carried) : Type 0 where
  pub c : Carried
  pub others : List Carried
  pub is : kept ≡ c ∷ others
  pub that : IsReceived job.formats received c
  pub stored : AllZip (IsReceived job.formats) rest others

pub kept_first : (job : JobShape) (received : ℕ × Arc OwnedBytes Global) (rest : List (ℕ × Arc OwnedBytes Global))
    (kept : List Carried) → AllZip (IsReceived job.formats) (received ∷ rest) kept → KeptFirst job received rest kept
kept_first job received rest [] all = absurd all
kept_first job received rest (c ∷ others) all = record { c = c; others = others; is = refl; that = all.0; stored = all.1 }

module _ (job : JobShape) (taken given : Counting) (entry : Entry) (here : RouteWork)
    (was : HasWorked job taken given (Some entry) [] here) (ends : HasEnds was.route) (on : route_of entry ≡ here.route) where
  abbrev its_round : ℕ
  its_round = round_in here

  abbrev its_stone : ℕ
  its_stone = last_stone was.route

  -- it keeps the record in hand
  pub keeps : (index : ℕ) (owned : Arc OwnedBytes Global)
      → HoldsItem job was.route its_round was.handled was.new index owned
      → is_frozen job its_stone its_round ≡ true
      → HasWorked job taken given None [] (keeping here (index, owned))
  keeps index owned holds frozen =
      let before = held_before job was.route its_round in
      let works : Works true (before ++ was.new) was.done was.kept =
      subst (λ (b : Bool). Works b (before ++ was.new) was.done was.kept) frozen was.works in
      let front = front_record (arrivals job was.route) was.handled its_round was.new holds.later holds.c holds.there
      (sym was.came.long) in
      record {
        route = was.route;
        there = was.there;
        handled = was.handled + 1;
        new = was.new ++ holds.c ∷ [];
        count = put_down taken here.route was.handled entry on was.count;
        came = front.longer;
        rounds = was.rounds;
        done = was.done;
        kept = was.kept ++ holds.c ∷ [];
        works = subst (λ (b : Bool). Works b (before ++ (was.new ++ holds.c ∷ [])) was.done (was.kept ++ holds.c ∷ [])) (sym frozen)
            (works_kept before was.new was.done was.kept holds.c works);
        stored = zip_append (IsReceived job.formats) here.kept was.kept ((index, owned) ∷ []) (holds.c ∷ []) was.stored
            ((holds.index_is, holds.that), tt);
        ended = was.ended;
        running = was.running;
        outlets = was.outlets;
        sent = was.sent;
      }

  -- it acts on the record in hand
  pub acts_new : (index : ℕ) (owned : Arc OwnedBytes Global) (goes : ℕ → Bool) (sending : Sending) (waiting : List Entry)
      (running : Running)
      → (holds : HoldsItem job was.route its_round was.handled was.new index owned)
      → is_frozen job its_stone its_round ≡ false → here.kept ≡ []
      → CountsIn job.formats here.running running holds.c (outcome_of (act_of job) its_stone holds.c)
      → Delivers job.formats holds.c (outcome_of (act_of job) its_stone holds.c) goes sending
      → AreLined (IsOf sending) goes 0 here.outlets waiting
      → HasWorked job taken given None waiting (acted_on here (lengthened goes 0 here.outlets) [] running)
  acts_new index owned goes sending waiting running holds thawed empty counts delivers lined =
      let before = held_before job was.route its_round in
      let none : was.kept ≡ [] = none_stored (IsReceived job.formats) was.kept
      (subst (λ l. AllZip (IsReceived job.formats) l was.kept) empty was.stored) in
      let works = thawed_works job taken given (Some entry) here was ends [] none thawed in
      let next = next_of_new job taken given (Some entry) here was ends holds.c holds.later none thawed holds.there in
      let front = front_record (arrivals job was.route) was.handled its_round was.new holds.later holds.c holds.there
      (sym was.came.long) in
      record {
        route = was.route;
        there = was.there;
        handled = was.handled + 1;
        new = was.new ++ holds.c ∷ [];
        count = put_down taken here.route was.handled entry on was.count;
        came = front.longer;
        rounds = was.rounds;
        done = was.done ++ holds.c ∷ [];
        kept = [];
        works = subst (λ (b : Bool). Works b (before ++ (was.new ++ holds.c ∷ [])) (was.done ++ holds.c ∷ []) []) (sym thawed)
            (works_new before was.new was.done holds.c works);
        stored = tt;
        ended = was.ended;
        running = tallied_more job.formats (act_of job) its_stone here.running running was.done holds.c was.running counts;
        outlets = length-lengthened goes 0 here.outlets ∙ was.outlets;
        sent = sends job taken given (Some entry) here was ends holds.c goes sending waiting next delivers lined;
      }

  works_begin : (frozen : Bool) (kept : List Carried) → Works frozen (kept ++ []) [] kept
  works_begin true kept = (refl, sym (append-nil kept))
  works_begin false kept = sym (append-nil kept)

  -- what is sent on at the end of the round
  pub end_sent : (done kept : List Carried) (waiting : List Entry) → was.done ≡ done
      → slice_get (rounds_of job was.route) its_round ≡ Some (record { done = done; held = kept })
      → AreLined (IsOf (an_end its_round)) everywhere 0 here.outlets waiting
      → (position : ℕ) (outlet : Outlet) → slice_get (lengthened everywhere 0 here.outlets) position ≡ Some outlet
      → HasSent job given waiting was.route (its_round + 1) [] position outlet
  end_sent done kept waiting is there lined position outlet at =
      let found : Was everywhere 0 position here.outlets outlet = was_outlet everywhere 0 position here.outlets outlet at in
      let old : Outlet = found.old in
      let before = subst (λ (l : List Carried). HasSent job given [] was.route its_round l position old) is
      (was.sent position old found.there) in
      let one = one_lined (IsOf (an_end its_round)) everywhere 0 position here.outlets waiting old
      (outlets_apart job taken given (Some entry) [] here was) lined found.there in
      subst (λ (o : Outlet). HasSent job given waiting was.route (its_round + 1) [] position o) (sym found.how)
      (end_goes job given was.route position old ends its_round done kept waiting one.0
      there before one.1 one.2.on one.2.at (mark_stands job its_round one.0 one.2.is))

  -- it ends the round
  pub round_ends : (ended : ℕ) (waiting : List Entry) (account : RoundAccount)
      → (holds : HoldsMark job was.route its_round was.new ended)
      → (is_frozen job its_stone its_round ≡ false → here.kept ≡ [])
      → AreLined (IsOf (an_end its_round)) everywhere 0 here.outlets waiting
      → Closes here.running (length here.kept) account
      → HasWorked job taken given None waiting (round_ended here account)
  round_ends ended waiting account holds all lined closes =
      let before = held_before job was.route its_round in
      let none : is_frozen job its_stone its_round ≡ false → was.kept ≡ [] = λ thawed. none_stored (IsReceived job.formats) was.kept
      (subst (λ l. AllZip (IsReceived job.formats) l was.kept) (all thawed) was.stored) in
      let worked = works_end (is_frozen job its_stone its_round) (before ++ was.new) was.done was.kept was.works none in
      let there = round_there job was.route ends its_round was.new holds.there ∙ ap Some worked in
      let long : length (here.ended ++ account ∷ []) ≡ its_round + 1 =
      length-append here.ended (account ∷ []) in
      let front = front_end (arrivals job was.route) was.handled its_round was.new holds.there (sym was.came.long) in
      let held : held_before job was.route (its_round + 1) ≡ was.kept =
      ap (held_before job was.route) (add-one its_round)
      ∙ held_at [] (rounds_of job was.route) its_round (record { done = was.done; held = was.kept }) there in
      let closed : IsTallied job.formats account (account_of (act_of job) its_stone (record { done = was.done; held = was.kept })) =
      tallied_end job.formats (act_of job) its_stone here.running account was.done was.kept (length here.kept)
      (same_length (IsReceived job.formats) here.kept was.kept was.stored) was.running closes in
      record {
        route = was.route;
        there = was.there;
        handled = was.handled + 1;
        new = [];
        count = put_down taken here.route was.handled entry on was.count;
        came = rw long front.longer;
        rounds = let below = round_below job was.route ends its_round was.new holds.there in omega arith;
        done = [];
        kept = was.kept;
        works = rw (long, held) (works_begin (is_frozen job its_stone (its_round + 1)) was.kept);
        stored = was.stored;
        ended = rw long (ended_more job.formats (act_of job) its_stone (rounds_of job was.route) here.ended
            account its_round (record { done = was.done; held = was.kept }) there was.ended closed);
        running = tallied_none job.formats (act_of job) its_stone;
        outlets = length-lengthened everywhere 0 here.outlets ∙ was.outlets;
        sent = rw long (end_sent was.done was.kept waiting refl there lined);
      }
