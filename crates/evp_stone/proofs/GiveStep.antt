-- A turn gives the first entry that waits: what it requires, and what holds then.
use Rattle.std.proofs.Common.{◌≡◌, ℕ, ◌+◌, List, ◌∷◌, Some}
use Rattle.std.proofs.Common.{sym, ap, subst, ◌∙◌, ⊎_elim}
use Rattle.std.proofs.lemmas.Bool.Decides.{eqb_tells}
use Rattle.std.specs.List.{slice_get}
use Rattle.evp_graph.specs.declared.route.Route.{Route}
use Rattle.evp_queue.proofs.Flows.{carries_fewer, carries_behind}
use Rattle.evp_stone.specs.declared.entry.Entry.{Entry}
use Rattle.evp_stone.specs.Carried.{Carried}
use Rattle.evp_stone.specs.Entries.{flow, stands_for, route_of, position_of}
use Rattle.evp_stone.specs.JobShape.{JobShape}
use Rattle.evp_stone.specs.Port.{Counting, OneMore, IsNext, IsPlacedIn}
use Rattle.evp_stone.specs.Route.{last_stone}
use Rattle.evp_stone.specs.State.{Outlet, RouteWork, StoneWork, HasSent, HasWorked, GoesOut, HasState}
use Rattle.evp_stone.proofs.Recounted.{work_as}

some_same : (a b : ℕ) → Some a ≡ Some b → a ≡ b
some_same a b same = cc

module _ (job : JobShape) (given later : Counting) (entry : Entry) (rest : List Entry) (more : OneMore given later entry) where
  -- at an outlet
  pub sent_given : (route : Route) (round : ℕ) (done : List Carried) (position : ℕ) (outlet : Outlet)
      → HasSent job given (entry ∷ rest) route round done position outlet
      → HasSent job later rest route round done position outlet
  sent_given route round done position outlet was =
      ⊎_elim (λ e.
      let so_far : was.so_far ≡ position_of entry =
      some_same was.so_far (position_of entry) (sym was.count ∙ ap given e.1 ∙ more.was) in
      let fewer = carries_fewer route_of position_of flow stands_for job outlet.route was.so_far outlet.lined rest entry was.waits
      (sym e.1) in
      record {
        longer = was.longer;
        there = was.there;
        goes_on = was.goes_on;
        so_far = was.so_far + 1;
        count = ap later e.1 ∙ more.here ∙ ap (λ (n : ℕ). Some (n + 1)) (sym so_far);
        waits = fewer.others;
        lined = was.lined;
      })
      (λ e. record {
        longer = was.longer;
        there = was.there;
        goes_on = was.goes_on;
        so_far = was.so_far;
        count = more.others outlet.route e.1 ∙ was.count;
        waits = carries_behind route_of position_of flow stands_for job outlet.route was.so_far outlet.lined rest entry was.waits e.1;
        lined = was.lined;
      })
      (eqb_tells outlet.route (route_of entry))

  pub work_given : (taken : Counting) (hand : _) (work : RouteWork) → HasWorked job taken given hand (entry ∷ rest) work
      → HasWorked job taken later hand rest work
  work_given taken hand work was =
      work_as job taken taken given later hand hand (entry ∷ rest) rest work was was.count
      (λ position outlet at. sent_given was.route _ was.done position outlet (was.sent position outlet at))

  -- the entry is given
  pub gave : (taken : Counting) (old new : StoneWork) → HasState job taken given old → old.waiting ≡ entry ∷ rest
      → new ≡ record old { waiting = rest } → HasState job taken later new
  gave taken old new state waits is =
      subst (HasState job taken later) (sym is) (record {
        numbers = state.numbers;
        port = state.port;
        hand = state.hand;
        waiting = (rw waits at state.waiting).1;
        each = λ place here at. work_given taken old.hand here (rw waits at state.each place here at);
      })

-- what the port wants to know of an entry that goes out
pub record MayGo (job : JobShape) (given : Counting) (entry : Entry) : Type 0 where
  pub longer : Route
  pub there : slice_get job.routes (route_of entry) ≡ Some longer
  pub next : given (route_of entry) ≡ Some (position_of entry)
  pub placed : IsPlacedIn job entry

may_go_at : (job : JobShape) (given : Counting) (route : Route) (round : ℕ) (done : List Carried) (position : ℕ) (outlet : Outlet)
    (entry : Entry) (rest : List Entry) → HasSent job given (entry ∷ rest) route round done position outlet → outlet.route ≡ route_of entry
    → MayGo job given entry
may_go_at job given route round done position outlet entry rest was is =
    let first = carries_fewer route_of position_of flow stands_for job outlet.route was.so_far outlet.lined rest entry was.waits
    (sym is) in
    record {
      longer = was.longer;
      there = ap (slice_get job.routes) (sym is) ∙ was.there;
      next = ap given (sym is) ∙ was.count ∙ ap Some (sym first.is);
      placed = (
        first.fact,
        ap (λ (n : ℕ). slice_get (flow job n) (position_of entry)) (sym is)
            ∙ ap (slice_get (flow job outlet.route)) first.is ∙ first.at,
        first.stands,
      );
    }

pub may_go : (job : JobShape) (taken given : Counting) (work : StoneWork) (entry : Entry) (rest : List Entry)
    → HasState job taken given work → work.waiting ≡ entry ∷ rest → MayGo job given entry
may_go job taken given work entry rest state waits =
    let out : GoesOut work.routes entry = (rw waits at state.waiting).0 in
    let here : HasWorked job taken given work.hand (entry ∷ rest) out.work = rw waits at state.each out.place out.work out.here in
    may_go_at job given here.route _ here.done out.position out.outlet entry rest (here.sent out.position out.outlet out.at) out.is

pub may_give : (job : JobShape) (is_of : JobShape → Type 0) (given : Counting) (entry : Entry) (target : ℕ) → is_of job
    → (go : MayGo job given entry) → last_stone go.longer ≡ target → IsNext is_of given target entry
may_give job is_of given entry target of go last = record {
  job = job;
  of = of;
  leads = record { route = go.longer; there = go.there; last = last };
  next = go.next;
  placed = go.placed;
}
