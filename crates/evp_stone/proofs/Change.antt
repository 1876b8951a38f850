-- A turn changes what a stone does on one route: what holds of the whole then.
use Rattle.std.proofs.Common.{◌≡◌, ◌≢◌, ℕ, zero, suc, ◌+◌, Bool, true, false, List, [], ◌∷◌, set, Option, Some}
use Rattle.std.proofs.Common.{refl, sym, ap, subst, ◌∙◌, ⊎_elim}
use Rattle.std.proofs.lemmas.Bool.Decides.{eqb_tells}
use Rattle.std.specs.Prelude.{if◌then◌else◌}
use Rattle.std.specs.List.{slice_get, AllPairs}
use Rattle.evp_graph.specs.declared.route.Route.{Route}
use Rattle.evp_queue.specs.Flow.{entries_of}
use Rattle.evp_stone.specs.declared.entry.Entry.{Entry}
use Rattle.evp_stone.specs.Carried.{Carried}
use Rattle.evp_stone.specs.Entries.{route_of}
use Rattle.evp_stone.specs.JobShape.{JobShape}
use Rattle.evp_stone.specs.Lining.{AreLined, lengthened, one_more}
use Rattle.evp_stone.specs.Port.{Counting}
use Rattle.evp_stone.specs.State.{Outlet, RouteWork, StoneWork, GoesOn, HasSent, HasWorked}
use Rattle.evp_stone.specs.State.{IsAmong, GoesOut, HasState, in_hand, numbers_of, round_in}
use Rattle.evp_stone.specs.Tallied.{routes_at}
use Rattle.evp_stone.proofs.Apart.{same_place, goes_on_once, end_once, number_at}
use Rattle.evp_stone.proofs.Lined.{AreApart, none_lined, all_lined}
use Rattle.evp_stone.proofs.Outlets.{stays}
use Rattle.evp_stone.proofs.Recounted.{work_as}

pub set_here : {X : Type 0} (xs : List X) (k : ℕ) (x y : X) → slice_get xs k ≡ Some x → slice_get (set xs k y) k ≡ Some y
set_here [] k x y at = absurd (cc)
set_here (z ∷ xs) zero x y at = refl
set_here (z ∷ xs) (suc k) x y at = set_here xs k x y at

pub set_elsewhere : {X : Type 0} (xs : List X) (k j : ℕ) (y : X) → j ≢ k → slice_get (set xs k y) j ≡ slice_get xs j
set_elsewhere [] k j y apart = refl
set_elsewhere (z ∷ xs) zero zero y apart = absurd (apart refl)
set_elsewhere (z ∷ xs) zero (suc j) y apart = refl
set_elsewhere (z ∷ xs) (suc k) zero y apart = refl
set_elsewhere (z ∷ xs) (suc k) (suc j) y apart = set_elsewhere xs k j y (λ e. apart (ap suc e))

pub numbers_set : (works : List RouteWork) (place : ℕ) (here new : RouteWork) → slice_get works place ≡ Some here
    → new.route ≡ here.route → numbers_of (set works place new) ≡ numbers_of works
numbers_set [] place here new at same = absurd (cc)
numbers_set (w ∷ works) zero here new at same =
    let is : w ≡ here = cc in ap (λ (n : ℕ). n ∷ numbers_of works) (same ∙ ap (λ (v : RouteWork). v.route) (sym is))
numbers_set (w ∷ works) (suc place) here new at same = ap (λ (l : List ℕ). w.route ∷ l) (numbers_set works place here new at same)

pub among_set : (works : List RouteWork) (place : ℕ) (here new : RouteWork) (route : ℕ) → slice_get works place ≡ Some here
    → new.route ≡ here.route → IsAmong works route → IsAmong (set works place new) route
among_set works place here new route at same among =
    ⊎_elim (λ e. let is : among.work ≡ here = some_work among.work here (sym among.here ∙ ap (slice_get works) e.1 ∙ at) in
    record {
      place = place;
      work = new;
      here = set_here works place here new at;
      is = same ∙ ap (λ (w : RouteWork). w.route) (sym is) ∙ among.is;
    })
    (λ e. record {
      place = among.place;
      work = among.work;
      here = set_elsewhere works place among.place new e.1 ∙ among.here;
      is = among.is;
    })
    (eqb_tells among.place place)
  where
    some_work : (v w : RouteWork) → Some v ≡ Some w → v ≡ w
    some_work v w same = cc

some_route : (r s : Route) → Some r ≡ Some s → r ≡ s
some_route r s same = cc

-- one outlet's route goes on from one route at one position
pub sent_once : (job : JobShape) (given : Counting) (waiting others : List Entry) (route other : Route) (round later : ℕ)
    (done finished : List Carried) (position at : ℕ) (outlet also : Outlet)
    → HasSent job given waiting route round done position outlet → HasSent job given others other later finished at also
    → outlet.route ≡ also.route → (route ≡ other) × (position ≡ at)
sent_once job given waiting others route other round later done finished position at outlet also one two same =
    let is = some_route one.longer two.longer (sym one.there ∙ ap (slice_get job.routes) same ∙ two.there) in
    goes_on_once route other two.longer position at (subst (λ (r : Route). GoesOn route position r) is one.goes_on) two.goes_on

pub outlets_apart : (job : JobShape) (taken given : Counting) (hand : Option Entry) (waiting : List Entry) (work : RouteWork)
    → HasWorked job taken given hand waiting work → AreApart work.outlets
outlets_apart job taken given hand waiting work was i j o u at there same =
    (sent_once job given waiting waiting was.route was.route _ _ was.done was.done i j o u (was.sent i o at) (was.sent j u there) same).1

-- what the entry in hand and the waiting ones are to a route on which nothing happened
pub others_stay : (job : JobShape) (taken given : Counting) (hand held : Option Entry) (old new : List Entry) (work : RouteWork)
    → HasWorked job taken given hand old work → in_hand work.route hand ≡ in_hand work.route held
    → ((position : ℕ) (outlet : Outlet) → slice_get work.outlets position ≡ Some outlet
    → entries_of route_of outlet.route old ≡ entries_of route_of outlet.route new)
    → HasWorked job taken given held new work
others_stay job taken given hand held old new work was hands waits =
    work_as job taken taken given given hand held old new work was (was.count ∙ ap (λ (n : ℕ). Some (was.handled + n)) hands)
    (λ position outlet at. stays job given was.route position outlet (round_in work) was.done old new (was.sent position outlet at)
    (waits position outlet at))

pub lengthened_at : (goes : ℕ → Bool) (first i : ℕ) (outlets : List Outlet) (o : Outlet) → slice_get outlets i ≡ Some o
    → (new : Outlet) × (slice_get (lengthened goes first outlets) i ≡ Some new) × (new.route ≡ o.route)
lengthened_at goes first i [] o at = absurd (cc)
lengthened_at goes first zero (u ∷ outlets) o at =
    let is : u ≡ o = cc in
    (if goes first then one_more u else u, refl, same_route (goes first) u ∙ ap (λ (v : Outlet). v.route) is)
  where
    same_route : (b : Bool) (u : Outlet) → (if b then one_more u else u).route ≡ u.route
    same_route true u = refl
    same_route false u = refl
lengthened_at goes first (suc i) (u ∷ outlets) o at = lengthened_at goes (first + 1) i outlets o at

-- one route changes: what a turn leaves there, in hand and waiting
pub record Changed (here new : RouteWork) (goes : ℕ → Bool) (IsOne : Entry → Type 0) (waiting : List Entry) : Type 0 where
  pub route : new.route ≡ here.route
  pub outlets : new.outlets ≡ lengthened goes 0 here.outlets
  pub waits : AreLined IsOne goes 0 here.outlets waiting

module _ (job : JobShape) (taken given : Counting) (old : StoneWork) (state : HasState job taken given old) (none : old.waiting ≡ [])
    (routes : AllPairs ◌≢◌ job.routes) (place : ℕ) (here new : RouteWork) (at : slice_get old.routes place ≡ Some here)
    (goes : ℕ → Bool) (IsOne : Entry → Type 0) (waiting : List Entry) (change : Changed here new goes IsOne waiting)
    (held : Option Entry) (kept : (e : Entry) → held ≡ Some e → old.hand ≡ Some e)
    (hands : (route : ℕ) → route ≢ here.route → in_hand route old.hand ≡ in_hand route held)
    (works : HasWorked job taken given held waiting new) where
  abbrev after : List RouteWork
  after = set old.routes place new

  worked_at : (q : ℕ) (w : RouteWork) → slice_get old.routes q ≡ Some w → HasWorked job taken given old.hand [] w
  worked_at q w there = subst (λ (l : List Entry). HasWorked job taken given old.hand l w) none (state.each q w there)

  -- another place has another number
  other_number : (q : ℕ) (w : RouteWork) → q ≢ place → slice_get old.routes q ≡ Some w → w.route ≢ here.route
  other_number q w apart there same =
      let numbers = routes_at job old.stone in
      apart (end_once old.stone 0 job.routes q place here.route
      (number_at old.routes numbers q w state.numbers there ∙ ap Some same) (number_at old.routes numbers place here state.numbers at))

  -- and no outlet of one of the other's
  other_outlet : (q : ℕ) (w : RouteWork) → q ≢ place → slice_get old.routes q ≡ Some w → (position i : ℕ) (o u : Outlet)
      → slice_get w.outlets position ≡ Some o → slice_get here.outlets i ≡ Some u → u.route ≢ o.route
  other_outlet q w apart there position i o u is ours same =
      let theirs = worked_at q w there in
      let mine = worked_at place here at in
      let one = sent_once job given [] [] theirs.route mine.route _ _ theirs.done mine.done position i o u
      (theirs.sent position o is) (mine.sent i u ours) (sym same) in
      other_number q w apart there (same_place job.routes w.route here.route mine.route routes
      (theirs.there ∙ ap Some one.0) mine.there)

  still : (q : ℕ) (w : RouteWork) → q ≢ place → slice_get old.routes q ≡ Some w → HasWorked job taken given held waiting w
  still q w apart there =
      others_stay job taken given old.hand held [] waiting w (worked_at q w there) (hands w.route (other_number q w apart there))
      (λ position outlet is. sym (none_lined IsOne goes 0 here.outlets waiting outlet.route change.waits
      (λ i u ours. other_outlet q w apart there position i outlet u is ours)))

  pub changed : HasState job taken given (record { stone = old.stone; waiting = waiting; hand = held; routes = after })
  changed = record {
    numbers = numbers_set old.routes place here new at change.route ∙ state.numbers;
    port = λ route count is. among_set old.routes place here new route at change.route (state.port route count is);
    hand = λ e is. let last = state.hand e (kept e is) in record {
      ours = among_set old.routes place here new (route_of e) at change.route last.ours;
      count = last.count;
      placed = last.placed;
    };
    waiting = all_lined IsOne goes (GoesOut after) 0 here.outlets waiting change.waits (λ i o e is on.
        let found = lengthened_at goes 0 i here.outlets o is in record {
          place = place;
          work = new;
          here = set_here old.routes place here new at;
          position = i;
          outlet = found.0;
          at = ap (λ (l : List Outlet). slice_get l i) change.outlets ∙ found.1;
          is = found.2 ∙ on;
        });
    each = λ q w is. ⊎_elim
        (λ e. let same : new ≡ w = some_here new w (sym (set_here old.routes place here new at) ∙ ap (slice_get after) (sym e.1) ∙ is) in
        subst (HasWorked job taken given held waiting) same works)
        (λ e. still q w e.1 (sym (set_elsewhere old.routes place q new e.1) ∙ is))
        (eqb_tells q place);
  }
    where
      some_here : (v w : RouteWork) → Some v ≡ Some w → v ≡ w
      some_here v w same = cc
