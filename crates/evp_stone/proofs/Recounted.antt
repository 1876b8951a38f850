-- An actor's state rests on the counts of its own routes alone.
use Rattle.std.proofs.Common.{◌≡◌, ℕ, ◌+◌, List, Option, Some, sym, ◌∙◌}
use Rattle.std.specs.List.{slice_get}
use Rattle.evp_cache.specs.Known.{Cells}
use Rattle.evp_graph.specs.declared.route.Route.{Route}
use Rattle.evp_stone.specs.declared.entry.Entry.{Entry}
use Rattle.evp_stone.specs.Actor.{Role, feeds, works, ActorShape, HasRole, HasActed}
use Rattle.evp_stone.specs.Carried.{Carried}
use Rattle.evp_stone.specs.Entries.{route_of}
use Rattle.evp_stone.specs.JobShape.{JobShape}
use Rattle.evp_stone.specs.Opening.{GivesOn}
use Rattle.evp_stone.specs.Port.{Counting}
use Rattle.evp_stone.specs.State.{Outlet, RouteWork, StoneWork, HasSent, HasWorked, HasState, in_hand, round_in}
use Rattle.evp_stone.proofs.Apart.{its_last}

-- no count moved
abbrev pub AreSame : Counting → Counting → Type 0
AreSame old new = (route : ℕ) → new route ≡ old route

-- no count of a route on which the actor gives moved
abbrev pub StayFor : JobShape → Role → Counting → Counting → Type 0
StayFor job role given later =
    (number : ℕ) (route : Route) → slice_get job.routes number ≡ Some route → GivesOn job role route → later number ≡ given number

pub sent_as : (job : JobShape) (given later : Counting) (waiting : List Entry) (route : Route) (round : ℕ) (done : List Carried)
    (position : ℕ) (outlet : Outlet) → later outlet.route ≡ given outlet.route → HasSent job given waiting route round done position outlet
    → HasSent job later waiting route round done position outlet
sent_as job given later waiting route round done position outlet same was = record {
  longer = was.longer;
  there = was.there;
  goes_on = was.goes_on;
  so_far = was.so_far;
  count = same ∙ was.count;
  waits = was.waits;
  lined = was.lined;
}

-- all else than counts, what is in hand and what waits is as it was
pub work_as : (job : JobShape) (taken now given later : Counting) (hand held : Option Entry) (old new : List Entry) (work : RouteWork)
    (was : HasWorked job taken given hand old work) → now work.route ≡ Some (was.handled + in_hand work.route held)
    → ((position : ℕ) (outlet : Outlet) → slice_get work.outlets position ≡ Some outlet
    → HasSent job later new was.route (round_in work) was.done position outlet)
    → HasWorked job now later held new work
work_as job taken now given later hand held old new work was count sent = record {
  route = was.route;
  there = was.there;
  handled = was.handled;
  new = was.new;
  count = count;
  came = was.came;
  rounds = was.rounds;
  done = was.done;
  kept = was.kept;
  works = was.works;
  stored = was.stored;
  ended = was.ended;
  running = was.running;
  outlets = was.outlets;
  sent = sent;
}

module _ (job : JobShape) (taken now given later : Counting) (takes : AreSame taken now) where
  pub state_as : (work : StoneWork) (unended : ℕ) → StayFor job (works work unended) given later → HasState job taken given work
      → HasState job now later work
  state_as work unended gives state = record {
    numbers = state.numbers;
    port = λ route count at. state.port route count (sym (takes route) ∙ at);
    hand = λ entry is. let last = state.hand entry is in record {
      ours = last.ours;
      count = takes (route_of entry) ∙ last.count;
      placed = last.placed;
    };
    waiting = state.waiting;
    each = λ place here at. let was = state.each place here at in
        work_as job taken now given later work.hand work.hand work.waiting work.waiting here was (takes here.route ∙ was.count)
        (λ position outlet on. let sent = was.sent position outlet on in
        sent_as job given later work.waiting was.route (round_in here) was.done position outlet
        (gives outlet.route sent.longer sent.there (record {
          number = here.route;
          route = was.route;
          there = was.there;
          last = its_last job work.stone work.routes place here was.route state.numbers at was.there;
          position = position;
          goes_on = sent.goes_on;
        }))
        sent);
  }

  role_as : (role : Role) → StayFor job role given later → HasRole job taken given role → HasRole job now later role
  role_as (feeds work) gives was = record {
    route = was.route;
    there = was.there;
    source = was.source;
    first = was.first;
    count = gives work.route was.route was.there (was.source, was.first) ∙ was.count;
    within = was.within;
    rest = was.rest;
    enough = was.enough;
  }
  role_as (works work unended) gives was = (state_as work unended gives was.0, was.1)

  -- an actor keeps its state where no count of its routes moved
  pub acted_as : (cells : Cells) (actor : ActorShape) → StayFor job actor.role given later → HasActed job cells taken given actor
      → HasActed job cells now later actor
  acted_as cells actor gives was = record {
    role = role_as actor.role gives was.role;
    pass = was.pass;
    met = was.met;
    builds = was.builds;
  }
