-- Lists in code, behind a take and behind a give.
use Rattle.std.proofs.Common.{◌≡◌, ℕ, ◌+◌, ◌<◌, ◌≤◌, ◌^◌, List, [], ◌∷◌, ◌++◌, length, Some, set, sym, ap, subst, ◌∙◌, arith}
use Rattle.std.proofs.lemmas.Option.{same_Some, slice_get_within}
use Rattle.std.specs.List.{slice_get, AllByRecursion}
use Rattle.evp_stone.specs.declared.entry.Entry.{Entry}
use Rattle.evp_stone.specs.Entries.{flow, route_of, position_of}
use Rattle.evp_stone.specs.Job.{IsJob}
use Rattle.evp_stone.specs.JobShape.{JobShape}
use Rattle.evp_stone.specs.Port.{LeadsTo, IsPlacedIn}
use Rattle.evp_stone.proofs.Bounds.{short_flow}
use Rattle.evp_stone.proofs.Elements.{there_below}
use Rattle.evp_stone.proofs.JobFacts.{ends_at}
use Rattle.evp_stone.proofs.LastStones.{leads_below}
use Rattle.evp_stone.proofs.WholeFlow.{flow_long}
use Rattle.evp_core.specs.Lists.{ListsShape, HasLists, HasRoom, IsFirst, MayJoin, IsPopped, IsPushed, OneLeft, OneJoined, IsFull, left_by}
use Rattle.evp_core.specs.Lists.{joined_by}
use Rattle.evp_core.proofs.ListsKeep.{left_keeps, joined_keeps}

-- a place in a flow fits its type
placed_fits : (job : JobShape) → IsJob job → (entry : Entry) (stone : ℕ) → LeadsTo job (route_of entry) stone → IsPlacedIn job entry
    → position_of entry + 1 < 2 ^ 32
placed_fits job is entry stone leads placed =
    let within = slice_get_within (flow job (route_of entry)) (position_of entry) placed.0 placed.1 in
    let short = short_flow job is leads.route (ends_at job is (route_of entry) leads.route leads.there) in
    let long = flow_long job (route_of entry) leads.route leads.there in
    omega arith

module _ (old : ListsShape) (stone : ℕ) (entry : Entry) where
  pub first_fits : IsJob old.job → IsFirst old stone entry → (count : ℕ) → slice_get old.taken (route_of entry) ≡ Some count
      → count + 1 < 2 ^ 32
  first_fits is first count at =
      let same = same_Some count (position_of entry) (sym at ∙ first.count) in
      let fits = placed_fits old.job is entry stone first.leads first.placed in omega arith

  pub next_fits : IsJob old.job → MayJoin old stone entry → (count : ℕ) → slice_get old.given (route_of entry) ≡ Some count
      → count + 1 < 2 ^ 32
  next_fits is next count at =
      let same = same_Some count (position_of entry) (sym at ∙ next.next) in
      let fits = placed_fits old.job is entry stone next.leads next.placed in omega arith

  module _ (lists : List (List Entry)) (taken : List ℕ) (pop : IsPopped old.lists lists stone entry)
      (raised : taken ≡ set old.taken (route_of entry) (position_of entry + 1)) where
    abbrev behind : ListsShape
    behind = record { job = old.job; lists = lists; taken = taken; given = old.given }

    is_left : behind ≡ left_by old stone entry pop.others
    is_left =
        ap (λ (l : List (List Entry)). record { job = old.job; lists = l; taken = taken; given = old.given }) pop.is
        ∙ ap (λ (t : List ℕ). record { job = old.job; lists = set old.lists stone pop.others; taken = t; given = old.given }) raised

    pub left_room : (rooms now : List ℕ) → HasRoom old rooms → now ≡ rooms → HasRoom behind now
    left_room rooms now has same = record {
      has = subst HasLists (sym is_left) (left_keeps old has.has stone entry pop.others pop.was);
      room = subst (λ (l : List ℕ). AllByRecursion (λ (room : ℕ). old.job.queue ≤ room) l) (sym same) has.room;
    }

    pub one_left : IsFirst old stone entry → OneLeft old behind stone entry
    one_left first = record { others = pop.others; was = pop.was; count = first.count; is = is_left }

  module _ (lists : List (List Entry)) (given : List ℕ) (push : IsPushed old.lists lists stone entry)
      (raised : given ≡ set old.given (route_of entry) (position_of entry + 1)) (next : MayJoin old stone entry)
      (room : length push.others < old.job.queue) where
    abbrev ahead : ListsShape
    ahead = record { job = old.job; lists = lists; taken = old.taken; given = given }

    is_joined : ahead ≡ joined_by old stone entry push.others
    is_joined =
        ap (λ (l : List (List Entry)). record { job = old.job; lists = l; taken = old.taken; given = given }) push.is
        ∙ ap (λ (g : List ℕ). record {
          job = old.job;
          lists = set old.lists stone (push.others ++ entry ∷ []);
          taken = old.taken;
          given = g;
        }) raised

    pub joined_room : (rooms now : List ℕ) → HasRoom old rooms → now ≡ rooms → HasRoom ahead now
    joined_room rooms now has same = record {
      has = subst HasLists (sym is_joined) (joined_keeps old has.has stone entry push.others push.was room next.leads next.next
          next.placed);
      room = subst (λ (l : List ℕ). AllByRecursion (λ (r : ℕ). old.job.queue ≤ r) l) (sym same) has.room;
    }

    pub one_joined : OneJoined old ahead stone entry
    one_joined = record {
      others = push.others;
      was = push.was;
      room = room;
      leads = next.leads;
      count = next.next;
      placed = next.placed;
      is = is_joined;
    }

-- a stone to which an entry goes has a list
pub stone_within : (old : ListsShape) → HasLists old → IsJob old.job → (stone : ℕ) (entry : Entry) → MayJoin old stone entry
    → stone < length old.lists
stone_within old has is stone entry next =
    let below = leads_below old.job is (route_of entry) stone next.leads in
    let long = has.stones in omega arith

-- a list that has as many entries as the job says is full
pub is_full : (old : ListsShape) → HasLists old → (stone : ℕ) → stone < length old.lists → (count : ℕ)
    → ((entries : List Entry) → slice_get old.lists stone ≡ Some entries → count ≡ length entries) → old.job.queue ≤ count
    → IsFull old stone
is_full old has stone within count counts most =
    let list = there_below old.lists stone within in
    let short = (has.each stone list.0 list.1).short in
    let same = counts list.0 list.1 in
    (list.0, list.1, (let e : length list.0 ≡ old.job.queue = omega arith in e))
