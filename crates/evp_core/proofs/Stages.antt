-- Where an actor stands: it is closed, has nothing to take, has no room for what it gives, or can move.
use Rattle.std.proofs.Common.{◌≡◌, ◌≢◌, ◌⊎◌, ℕ, suc, ◌<◌, List, [], ◌∷◌, length, Option, Some, None}
use Rattle.std.proofs.Common.{refl, arith, inl, inr, ⊎_elim}
use Rattle.std.proofs.lemmas.Bool.Decides.{eqb_tells}
use Rattle.std.specs.List.{slice_get, AllByRecursion}
use Rattle.evp_stone.specs.declared.entry.Entry.{Entry}
use Rattle.evp_stone.specs.Actor.{Role, feeds, works, ActorShape, HasRole}
use Rattle.evp_stone.specs.Closed.{IsClosed}
use Rattle.evp_stone.specs.Entries.{route_of}
use Rattle.evp_stone.specs.Feeding.{SourceWork, to_come}
use Rattle.evp_stone.specs.Flow.{Part}
use Rattle.evp_stone.specs.Job.{IsJob}
use Rattle.evp_stone.specs.JobShape.{JobShape}
use Rattle.evp_stone.specs.Opening.{IsNumbered}
use Rattle.evp_stone.specs.Port.{LeadsTo}
use Rattle.evp_stone.specs.Route.{last_stone}
use Rattle.evp_stone.specs.State.{RouteWork, StoneWork, round_in}
use Rattle.evp_stone.proofs.Elements.{there_below}
use Rattle.evp_stone.proofs.LastStones.{leads_below}
use Rattle.evp_stone.proofs.Listed.{ended_at}
use Rattle.evp_core.specs.Answers.{GivesTo, Takes, StandsIdle}
use Rattle.evp_core.specs.Lists.{ListsShape, IsFull, taken_on, given_on}
use Rattle.evp_core.specs.WorldShape.{WorldShape, HasRules, own_of}
use Rattle.evp_core.proofs.Given.{waits_on}

abbrev pub HasRoom : ListsShape → ℕ → Type 0
HasRoom lists stone =
    (entries : List Entry) × (slice_get lists.lists stone ≡ Some entries) × (length entries ≢ lists.job.queue)

-- it gives, and there is no room
abbrev pub StandsBlocked : ListsShape → Role → Type 0
StandsBlocked lists role = (target : ℕ) × GivesTo lists.job role target × IsFull lists target

-- it deals with what is in hand, or takes where there is something to take
abbrev pub CanWork : ListsShape → Role → Type 0
CanWork lists (feeds work) = ⊥
CanWork lists (works work unended) =
    ((work.waiting ≡ []) × ((entry : Entry) × (work.hand ≡ Some entry)))
    ⊎ (Takes lists.job work × ((entry : Entry) × (others : List Entry) × (slice_get lists.lists work.stone ≡ Some (entry ∷ others))))

abbrev pub CanGive : ListsShape → Role → Type 0
CanGive lists role = (target : ℕ) × GivesTo lists.job role target × HasRoom lists target

abbrev pub CanMove : ListsShape → Role → Type 0
CanMove lists role = CanGive lists role ⊎ CanWork lists role

-- all rounds of each route have ended, or not all of some route
pub record HasMore (rounds : ℕ) (list : List RouteWork) : Type 0 where
  pub place : ℕ
  pub here : RouteWork
  pub at : slice_get list place ≡ Some here
  pub more : round_in here ≢ rounds

later_more : (rounds : ℕ) (work : RouteWork) (list : List RouteWork) → HasMore rounds list → HasMore rounds (work ∷ list)
later_more rounds work list more = record { place = suc more.place; here = more.here; at = more.at; more = more.more }

pub ended_or : (rounds : ℕ) (list : List RouteWork) → AllByRecursion (λ (here : RouteWork). round_in here ≡ rounds) list
    ⊎ HasMore rounds list
ended_or rounds [] = inl tt
ended_or rounds (work ∷ list) =
    ⊎_elim (λ e. ⊎_elim (λ all. inl (e.1, all)) (λ more. inr (later_more rounds work list more)) (ended_or rounds list))
    (λ e. inr (record { place = 0; here = work; at = refl; more = e.1 }))
    (eqb_tells (round_in work) rounds)

module _ (world : WorldShape) (rules : HasRules world) (is : IsJob world.lists.job) where
  abbrev lists : ListsShape
  lists = world.lists

  abbrev job : JobShape
  job = world.lists.job

  -- a stone to which a route leads has a list
  pub list_there : (number stone : ℕ) → LeadsTo job number stone
      → (entries : List Entry) × (slice_get lists.lists stone ≡ Some entries)
  list_there number stone leads =
      let within = leads_below job is number stone leads in
      let long = rules.lists.stones in there_below lists.lists stone (omega arith)

  full_or : (role : Role) (number target : ℕ) → LeadsTo job number target → GivesTo job role target
      → StandsBlocked lists role ⊎ CanGive lists role
  full_or role number target leads gives =
      let there = list_there number target leads in
      ⊎_elim (λ e. inl (target, gives, (there.0, there.1, e.1))) (λ e. inr (target, gives, (there.0, there.1, e.1)))
      (eqb_tells (length there.0) job.queue)

  -- the actor of this role stands so
  abbrev pub Stands : Role → Type 0
  Stands role = IsClosed job role ⊎ (StandsIdle lists role ⊎ (StandsBlocked lists role ⊎ CanMove lists role))

  giving : (role : Role) → StandsBlocked lists role ⊎ CanGive lists role → Stands role
  giving role (inl blocked) = inr (inr (inl blocked))
  giving role (inr can) = inr (inr (inr (inl can)))

  taking : (work : StoneWork) (unended : ℕ) → Takes job work → (entries : List Entry) → slice_get lists.lists work.stone ≡ Some entries
      → Stands (works work unended)
  taking work unended takes [] at = inr (inl (takes, at))
  taking work unended takes (entry ∷ others) at = inr (inr (inr (inr (inr (takes, (entry, others, at))))))

  next : (work : StoneWork) (unended : ℕ) → (entries : List Entry) → slice_get lists.lists work.stone ≡ Some entries → work.waiting ≡ []
      → work.hand ≡ None → Stands (works work unended)
  next work unended entries at waiting hand =
      ⊎_elim (λ ended. inl (waiting, hand, ended))
      (λ more. taking work unended
      (record {
        waiting = waiting;
        hand = hand;
        unended = λ ended. more.more
            (ended_at (length job.rounds) work.routes more.place more.here more.at ended);
      })
      entries at)
      (ended_or (length job.rounds) work.routes)

  hand_stands : (work : StoneWork) (unended : ℕ) → (entries : List Entry) → slice_get lists.lists work.stone ≡ Some entries
      → work.waiting ≡ [] → (hand : Option Entry) → work.hand ≡ hand → Stands (works work unended)
  hand_stands work unended entries at waiting (Some entry) hand = inr (inr (inr (inr (inl (waiting, (entry, hand))))))
  hand_stands work unended entries at waiting None hand = next work unended entries at waiting hand

  module _ (number : ℕ) (actor : ActorShape) (there : slice_get world.actors number ≡ Some actor) where
    stone_stands : (work : StoneWork) (unended : ℕ) → HasRole job (taken_on lists (Some work.stone)) (given_on lists) (works work unended)
        → work.stone < length job.stones → (waiting : List Entry) → work.waiting ≡ waiting → Stands (works work unended)
    stone_stands work unended has within [] waits =
        let long = rules.lists.stones in
        let list = there_below lists.lists work.stone (omega arith) in
        hand_stands work unended list.0 list.1 waits work.hand refl
    stone_stands work unended has within (entry ∷ others) waits =
        let on = waits_on job (taken_on lists (Some work.stone)) (given_on lists) work unended entry others has.0 waits in
        let leads : LeadsTo job (route_of entry) (last_stone on.route) = record { route = on.route; there = on.there; last = refl } in
        giving (works work unended)
        (full_or (works work unended) (route_of entry) (last_stone on.route) leads (entry, others, waits, leads))

    source_stands : (work : SourceWork) → HasRole job (taken_on lists None) (given_on lists) (feeds work) → (parts : List Part)
        → to_come job work ≡ parts → Stands (feeds work)
    source_stands work has [] come = inl come
    source_stands work has (part ∷ parts) come =
        let leads : LeadsTo job work.route (last_stone has.route) = record { route = has.route; there = has.there; last = refl } in
        giving (feeds work) (full_or (feeds work) work.route (last_stone has.route) leads ((part, parts, come), leads))

    role_stands : (role : Role) → IsNumbered job number role → HasRole job (taken_on lists (own_of role)) (given_on lists) role
        → Stands role
    role_stands (feeds work) is has = source_stands work has (to_come job work) refl
    role_stands (works work unended) is has = stone_stands work unended has is.0 work.waiting refl

    pub stands : Stands actor.role
    stands = role_stands actor.role (rules.numbered number actor there) (rules.acted number actor there).role
