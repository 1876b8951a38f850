-- A port's counts after one of its givers gave an entry, or found no room.
use Rattle.std.proofs.Common.{◌≡◌, ℕ, ◌-◌, ◌^◌, ◌<◌, ◌≤◌, List, set, Option, Some, None, inl, inr, refl, sym, ap, subst, ◌∙◌}
use Rattle.std.proofs.Common.{⊎_elim, arith, get_or}
use Rattle.std.proofs.lemmas.Bool.{false≢true}
use Rattle.std.proofs.lemmas.Option.{get_or_from_slice_get, slice_get_within}
use Rattle.std.specs.Prelude.{Vec, ◌⊎◌, Result, Ok, Err, IfOk, IfErr, IsSome}
use Rattle.std.proofs.lemmas.Bool.Decides.{eqb_tells}
use Rattle.std.specs.List.{slice_get}
use Rattle.evp_graph.specs.declared.route.Route.{Route}
use Rattle.evp_queue.specs.Counts.{count_at, IsRoute}
use Rattle.evp_queue.specs.Passes.{giver_of, GivesTo, counted}
use Rattle.evp_queue.specs.Rule.{one_more}
use Rattle.evp_queue.specs.Rule as Next
use Rattle.evp_queue.specs.declared.pass.GivePass.{GivePass}
use Rattle.evp_queue.specs.declared.pass.Given.{Given as Back}
use Rattle.evp_queue.specs.declared.queue.StoneQueue.{StoneQueue}
use Rattle.evp_queue.specs.declared.progress.Progress.{Progress}
use Rattle.evp_queue.proofs.Counts.{raised_here, raised_elsewhere, was_route}
use Rattle.evp_stone.specs.declared.entry.Entry.{Entry}
use Rattle.evp_stone.specs.Entries.{flow, stands_for, route_of, position_of}
use Rattle.evp_stone.specs.JobShape.{JobShape}
use Rattle.evp_stone.specs.Port.{LeadsTo, OneMore, Rose, NotGiven, IsNext, IsPlacedIn}
use Rattle.evp_stone.specs.Route.{last_stone}
use Rattle.evp_stone.proofs.Change.{set_here, set_elsewhere}
use Rattle.evp_crew.specs.Ends.{PortShape, CanGive, GaveBy}
use Rattle.evp_crew.specs.declared.crew.Crew.{Crew}
use Rattle.evp_crew.specs.declared.passes.Passes.{Passes}
use Rattle.std.specs.Vec.{vec_len, with_item}
use Rattle.evp_crew.specs.Passes.{Giver, given_at, given_on, given_by, told, fulls_at, fulls_by, GivesIn, AreOf, Stay}

abbrev Pass : Type 0
Pass = GivePass Entry JobShape

-- the giver that has the route, with its count
pub record GiverAt (gives : List Giver) (target number so_far : ℕ) : Type 0 where
  pub pass : Pass
  pub there : slice_get gives target ≡ Some (Some pass)
  pub count : count_at number (giver_of pass).counts ≡ Some so_far

given_is : (number count : ℕ) (o : Option Giver) → given_at number o ≡ Some count
    → (pass : Pass) × (o ≡ Some (Some pass)) × (count_at number (giver_of pass).counts ≡ Some count)
given_is number count None is = absurd (cc)
given_is number count (Some None) is = absurd (cc)
given_is number count (Some (Some pass)) is = (pass, refl, is)

-- the count is that of the giver to the stone to which the route leads
pub given_there : (job : JobShape) (gives : List Giver) (number target : ℕ) → LeadsTo job number target
    → given_by job gives number ≡ given_at number (slice_get gives target)
given_there job gives number target leads =
    ap (given_on gives number) leads.there ∙ ap (λ (t : ℕ). given_at number (slice_get gives t)) leads.last

pub giver_there : (job : JobShape) (gives : List Giver) (number target count : ℕ) → LeadsTo job number target
    → given_by job gives number ≡ Some count → GiverAt gives target number count
giver_there job gives number target count leads is =
    let giver = given_is number count (slice_get gives target) (sym (given_there job gives number target leads) ∙ is) in
    record { pass = giver.0; there = giver.1; count = giver.2 }

-- a place where something stands is within the vector
pub in_vec : {X Z : Type 0} (v : Vec X Z) (place : ℕ) (x : X) → slice_get v.items place ≡ Some x → place < vec_len v
in_vec v place x at = let below = slice_get_within v.items place x at in let long = v.ok.0 in omega arith

-- what stands at a place is what was read there
pub read_at : {X : Type 0} (xs : List X) (place : ℕ) (x y : X) → slice_get xs place ≡ Some y → x ≡ get_or xs place x → x ≡ y
read_at xs place x y at is = is ∙ get_or_from_slice_get xs place y x at

-- an entry that may be given
pub record Ready (job : JobShape) (gives : List Giver) (target : ℕ) (entry : Entry) : Type 0 where
  pub leads : LeadsTo job (route_of entry) target
  pub next : given_by job gives (route_of entry) ≡ Some (position_of entry)
  pub placed : IsPlacedIn job entry

pub ready : (port seen : PortShape) (target place : ℕ) (entry : Entry) → port ≡ seen → place ≡ target
    → IsNext (λ job. job ≡ seen.job) (given_by seen.job seen.passes.gives.items) target entry
    → Ready port.job port.passes.gives.items place entry
ready port seen target place entry is at next =
    let same : next.job ≡ port.job = next.of ∙ ap (λ (p : PortShape). p.job) (sym is) in
    let leads : LeadsTo port.job (route_of entry) target = subst (λ (j : JobShape). LeadsTo j (route_of entry) target) same next.leads in
    record {
      leads = subst (LeadsTo port.job (route_of entry)) (sym at) leads;
      next = ap (λ (p : PortShape). given_by p.job p.passes.gives.items (route_of entry)) is ∙ next.next;
      placed = subst (λ (j : JobShape). IsPlacedIn j entry) same next.placed;
    }

-- the giver of an entry that may be given, and its queue
pub record GiverOf (crew : Crew) (job : JobShape) (gives : List Giver) (target : ℕ) (entry : Entry) : Type 0 where
  pub pass : Pass
  pub there : slice_get gives target ≡ Some (Some pass)
  pub in_crew : GivesIn crew job target pass
  pub next : Next.IsNext route_of position_of flow stands_for (giver_of pass) entry

pub giver_for : (crew : Crew) (job : JobShape) (passes : Passes) (target : ℕ) (entry : Entry) → AreOf crew job passes
    → Ready job passes.gives.items target entry → GiverOf crew job passes.gives.items target entry
giver_for crew job passes target entry are may =
    let giver = giver_there job passes.gives.items (route_of entry) target (position_of entry) may.leads may.next in
    let of = are.gives target giver.pass giver.there in
    record {
      pass = giver.pass;
      there = giver.there;
      in_crew = of;
      next = (giver.count, (job, of.whole, may.placed));
    }

-- the giver may give it
pub can_give : (crew : Crew) (job : JobShape) (gives : List Giver) (target : ℕ) (entry : Entry)
    (giver : GiverOf crew job gives target entry) (queue : StoneQueue Entry JobShape) (o : Giver)
    → queue ≡ get_or crew.queues.items target queue → o ≡ get_or gives target o → CanGive queue o entry
can_give crew job gives target entry giver queue o at is =
    let same = read_at crew.queues.items target queue giver.in_crew.queue giver.in_crew.there at in
    record {
      pass = giver.pass;
      there = read_at gives target o (Some giver.pass) giver.there is;
      gives = subst (λ (q : StoneQueue Entry JobShape). GivesTo q giver.pass) (sym same) giver.in_crew.gives;
      next = giver.next;
    }

-- a count that rises, and stays at its last value
pub rises : (count : ℕ) → Rose (told count) (told (counted count))
rises count = ⊎_elim (λ (b : count < 2 ^ 64 - 1). inl (omega arith)) (λ (b : 2 ^ 64 - 1 ≤ count). inr (omega arith)) (cut count)
  where
    cut : (n : ℕ) → (n < 2 ^ 64 - 1) ⊎ (2 ^ 64 - 1 ≤ n)
    cut n = grind arith

module _ (job : JobShape) (gives : List Giver) (target : ℕ) (old new : Pass) (there : slice_get gives target ≡ Some (Some old)) where
  abbrev later : List Giver
  later = set gives target (Some new)

  given_where : (number : ℕ) (o : Option Route) → count_at number (giver_of new).counts ≡ count_at number (giver_of old).counts
      → given_on later number o ≡ given_on gives number o
  given_where number None same = refl
  given_where number (Some route) same =
      ⊎_elim (λ e. ap (λ (t : ℕ). given_at number (slice_get later t)) e.1
      ∙ ap (given_at number) (set_here gives target (Some old) (Some new) there) ∙ same
      ∙ sym (ap (given_at number) there) ∙ ap (λ (t : ℕ). given_at number (slice_get gives t)) (sym e.1))
      (λ e. ap (given_at number) (set_elsewhere gives target (last_stone route) (Some new) e.1))
      (eqb_tells (last_stone route) target)

  pub given_same : (number : ℕ) → count_at number (giver_of new).counts ≡ count_at number (giver_of old).counts
      → given_by job later number ≡ given_by job gives number
  given_same number same = given_where number (slice_get job.routes number) same

  fulls_rise : told old.fulls ≤ told new.fulls → (stone : ℕ) → fulls_by gives stone ≤ fulls_by later stone
  fulls_rise rise stone =
      ⊎_elim (λ e.
      let was : fulls_by gives stone ≡ told old.fulls = ap (λ (t : ℕ). fulls_at (slice_get gives t)) e.1 ∙ ap fulls_at there in
      let is : fulls_by later stone ≡ told new.fulls = ap (λ (t : ℕ). fulls_at (slice_get later t)) e.1
      ∙ ap fulls_at (set_here gives target (Some old) (Some new) there) in
      omega arith)
      (λ e. let same = ap fulls_at (set_elsewhere gives target stone (Some new) e.1) in omega arith)
      (eqb_tells stone target)

  pub fulls_stay : {A : Type 0} (queue : StoneQueue Entry JobShape) (entry : Entry) (result : Result A (Back Entry))
      → GaveBy queue old new entry result → (stone : ℕ) → fulls_by gives stone ≤ fulls_by later stone
  fulls_stay queue entry (Ok x) by = fulls_rise (let same = ap told by.answer.1 in omega arith)
  fulls_stay queue entry (Err back) by = fulls_rise (let same = ap told by.answer.2 in let up = told_up old.fulls in omega arith)
    where
      told_up : (n : ℕ) → told n ≤ told (counted n)
      told_up n = omega arith

  -- the giver stays one for the flows of the job
  pub whole_stays : {A : Type 0} (queue : StoneQueue Entry JobShape) (entry : Entry) (result : Result A (Back Entry))
      → GaveBy queue old new entry result → (giver_of new).whole ≡ (giver_of old).whole
  whole_stays queue entry (Ok x) by = ap (λ (p : Progress JobShape). p.whole) by.answer.0
  whole_stays queue entry (Err back) by = ap (λ (p : Progress JobShape). p.whole) by.answer.1

  -- and has the same routes
  pub routes_stay : {A : Type 0} (queue : StoneQueue Entry JobShape) (entry : Entry) (result : Result A (Back Entry))
      → GaveBy queue old new entry result → (number : ℕ) → IsRoute number (giver_of new).counts → IsRoute number (giver_of old).counts
  routes_stay queue entry (Ok x) by number is =
      was_route (route_of entry) number (giver_of old).counts
      (subst (λ (p : Progress JobShape). IsRoute number p.counts) by.answer.0 is)
  routes_stay queue entry (Err back) by number is = subst (λ (p : Progress JobShape). IsRoute number p.counts) by.answer.1 is

  module _ (entry : Entry) (leads : LeadsTo job (route_of entry) target)
      (next : given_by job gives (route_of entry) ≡ Some (position_of entry)) where
    gave : giver_of new ≡ one_more (route_of entry) (giver_of old) → OneMore (given_by job gives) (given_by job later) entry
    gave is =
        let count : count_at (route_of entry) (giver_of old).counts ≡ Some (position_of entry) =
        ap (given_at (route_of entry)) (sym there) ∙ sym (given_there job gives (route_of entry) target leads) ∙ next in
        record {
          was = next;
          here = given_there job later (route_of entry) target leads
              ∙ ap (given_at (route_of entry)) (set_here gives target (Some old) (Some new) there)
              ∙ ap (λ (p : Progress JobShape). count_at (route_of entry) p.counts) is
              ∙ raised_here (route_of entry) (position_of entry) (giver_of old).counts count;
          others = λ route apart. given_same route (ap (λ (p : Progress JobShape). count_at route p.counts) is
              ∙ raised_elsewhere (route_of entry) route (giver_of old).counts apart);
        }

    pub is_given : {A : Type 0} (queue : StoneQueue Entry JobShape) (result : Result A (Back Entry))
        → GaveBy queue old new entry result → IfOk result (λ x. OneMore (given_by job gives) (given_by job later) entry)
    is_given queue (Ok x) by = gave by.answer.0
    is_given queue (Err back) by = tt

    pub is_back : {A : Type 0} (queue : StoneQueue Entry JobShape) (result : Result A (Back Entry))
        → GaveBy queue old new entry result
        → IfErr result (NotGiven (given_by job gives) (given_by job later) target entry (fulls_by gives target) (fulls_by later target))
    is_back queue (Ok x) by = tt
    is_back queue (Err back) by =
        let was : fulls_by gives target ≡ told old.fulls = ap fulls_at there in
        let is : fulls_by later target ≡ told new.fulls = ap fulls_at (set_here gives target (Some old) (Some new) there) in
        record {
          same = λ route. given_same route (ap (λ (p : Progress JobShape). count_at route p.counts) by.answer.1);
          cause = inl
              (by.answer.0, rw (was, is, by.answer.2) (rises old.fulls));
        }

module _ (crew : Crew) (job : JobShape) (passes : Passes) (are : AreOf crew job passes) (target : ℕ) (old new : Pass)
    (there : slice_get passes.gives.items target ≡ Some (Some old)) where
  abbrev behind : Passes
  behind = record { alloc = passes.alloc; take = passes.take; gives = with_item passes.gives target (Some new) }

  pub still_of : {A : Type 0} (queue : StoneQueue Entry JobShape) (entry : Entry) (result : Result A (Back Entry))
      → GaveBy queue old new entry result → slice_get crew.queues.items target ≡ Some queue → AreOf crew job behind
  still_of queue entry result by at =
      record {
        takes = are.takes;
        gives = λ stone pass is. ⊎_elim (λ e.
            let same : new ≡ pass = some_some new pass (sym (set_here passes.gives.items target (Some old) (Some new) there)
            ∙ ap (slice_get (set passes.gives.items target (Some new))) (sym e.1) ∙ is) in
            record {
              queue = queue;
              there = ap (slice_get crew.queues.items) e.1 ∙ at;
              gives = subst (GivesTo queue) same by.gives;
              whole = ap (λ (p : Pass). (giver_of p).whole) (sym same)
                  ∙ whole_stays job passes.gives.items target old new there queue entry result by ∙ (are.gives target old there).whole;
            })
            (λ e. are.gives stone pass (sym (set_elsewhere passes.gives.items target stone (Some new) e.1) ∙ is))
            (eqb_tells stone target);
      }
    where
      some_some : (a b : Pass) → Some (Some a) ≡ Some (Some b) → a ≡ b
      some_some a b same = cc

  pub stays_by : {A : Type 0} (queue : StoneQueue Entry JobShape) (entry : Entry) (result : Result A (Back Entry))
      → GaveBy queue old new entry result → Stay job passes behind
  stays_by queue entry result by =
      record {
        stone = refl;
        given = λ number is. had number (slice_get job.routes number) is;
      }
    where
      has : (number : ℕ) (o : Option ℕ) → IsSome o → (n : ℕ) × (o ≡ Some n)
      has number None is = absurd (false≢true is)
      has number (Some n) is = (n, refl)

      had : (number : ℕ) (o : Option Route) → IsSome (given_on (set passes.gives.items target (Some new)) number o)
          → IsSome (given_on passes.gives.items number o)
      had number None is = is
      had number (Some route) is =
          ⊎_elim (λ e.
          let now : given_at number (Some (Some new)) ≡ given_on (set passes.gives.items target (Some new)) number (Some route) =
          sym (ap (λ (t : ℕ). given_at number (slice_get (set passes.gives.items target (Some new)) t)) e.1
          ∙ ap (given_at number) (set_here passes.gives.items target (Some old) (Some new) there)) in
          let was : given_on passes.gives.items number (Some route) ≡ given_at number (Some (Some old)) =
          ap (λ (t : ℕ). given_at number (slice_get passes.gives.items t)) e.1 ∙ ap (given_at number) there in
          let counted' = has number _ (subst IsSome (sym now) is) in
          let before = routes_stay job passes.gives.items target old new there queue entry result by number counted' in
          subst IsSome (sym (was ∙ before.1)) refl)
          (λ e. subst IsSome (ap (given_at number) (set_elsewhere passes.gives.items target (last_stone route) (Some new) e.1)) is)
          (eqb_tells (last_stone route) target)
