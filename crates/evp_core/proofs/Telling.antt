-- A turn's answer tells where its actor stood.
use Rattle.std.proofs.Common.{◌≡◌, ◌≢◌, ℕ, ◌+◌, List, [], ◌∷◌, length, Option, Some, None}
use Rattle.std.proofs.Common.{refl, sym, ap, subst, ◌∙◌, arith, inl, inr, ⊎_elim, ne_eqb}
use Rattle.std.proofs.lemmas.Bool.Decides.{eqb_tells}
use Rattle.std.proofs.lemmas.Option.{same_Some}
use Rattle.std.specs.Prelude.{if◌then◌else◌}
use Rattle.std.specs.List.{slice_get}
use Rattle.evp_stone.specs.declared.entry.Entry.{Entry}
use Rattle.evp_stone.specs.declared.turn.Turn.{Turn}
use Rattle.evp_stone.specs.declared.turn.Turn.TheVariants.{Moved, Idle, Blocked, Closed, Memory}
use Rattle.evp_stone.specs.Actor.{Role, feeds, works, ActorShape}
use Rattle.evp_stone.specs.Entries.{route_of, position_of}
use Rattle.evp_stone.specs.Feeding.{SourceWork, to_come}
use Rattle.evp_stone.specs.Flow.{Part}
use Rattle.evp_stone.specs.JobShape.{JobShape}
use Rattle.evp_stone.specs.Port.{LeadsTo, OneMore, Rose}
use Rattle.evp_stone.specs.State.{StoneWork}
use Rattle.evp_stone.specs.Turned.{Counted, RoleGoes, StoneGoes, FirstGoes, NextComes, SourceGoes, PartGoes, NoneGoes, NoRoom, HasEnded}
use Rattle.evp_stone.proofs.Change.{set_elsewhere}
use Rattle.evp_stone.proofs.SameActor.{found_closed}
use Rattle.evp_core.specs.Answers.{Takes, StandsIdle, StandsBlockedAt, Tells, AnswersFor}
use Rattle.evp_core.specs.Lists.{ListsShape, ListsGo, OneJoined, IsEmpty, IsFull, taken_on, given_on}
use Rattle.evp_core.specs.WorldShape.{WorldShape, own_of}
use Rattle.evp_core.specs.WorldTurned.{WorldTurned, counts_before, counts_behind, lacks, one_if_long, one_if_empty}
use Rattle.evp_core.proofs.ListsKeep.{leads_once}
use Rattle.evp_core.proofs.Elements.{one_above}

none_rose : Rose 0 0 → ⊥
none_rose rose = ⊎_elim (λ more. absurd (omega arith)) (λ last. absurd (omega arith)) rose

-- what counts as empty is, and what counts as full
empty_list_of : (list : Option (List Entry)) → Rose 0 (one_if_empty list) → list ≡ Some []
empty_list_of None rose = absurd (none_rose rose)
empty_list_of (Some []) rose = refl
empty_list_of (Some (entry ∷ entries)) rose = absurd (none_rose rose)

full_list_of : (queue : ℕ) (list : Option (List Entry)) → Rose 0 (one_if_long queue list)
    → (entries : List Entry) × (list ≡ Some entries) × (length entries ≡ queue)
full_list_of queue None rose = absurd (none_rose rose)
full_list_of queue (Some entries) rose =
    ⊎_elim (λ e. (entries, refl, e.1))
    (λ e. absurd (none_rose (subst (Rose 0) (ap (λ b. if b then 1 else 0) (ne_eqb (length entries) queue e.1)) rose)))
    (eqb_tells (length entries) queue)

module _ (lists after : ListsShape) (own : Option ℕ) (go : ListsGo own lists after) where
  abbrev job : JobShape
  job = lists.job

  abbrev before : Counted
  before = counts_before lists own

  abbrev behind : Counted
  behind = counts_behind lists after own

  -- one that joined its list found room there
  joined_room : (entry : Entry) → OneMore (given_on lists) (given_on after) entry → (target : ℕ) → LeadsTo job (route_of entry) target
      → IsFull lists target → (stone : ℕ) (other : Entry) → OneJoined lists after stone other → ⊥
  joined_room entry more target leads full stone other joined =
      ⊎_elim
      (λ e.
      let there : stone ≡ target = leads_once job (route_of other) stone target joined.leads
      (subst (λ (r : ℕ). LeadsTo job r target) e.1 leads) in
      let same : full.0 ≡ joined.others =
      same_Some full.0 joined.others (sym full.1 ∙ ap (slice_get lists.lists) (sym there) ∙ joined.was) in
      let long = ap (λ (l : List Entry). length l) same in
      let count = full.2 in
      let room = joined.room in
      absurd (omega arith))
      (λ e. absurd (one_above (position_of entry)
      (sym more.was ∙ sym (set_elsewhere lists.given (route_of other) (route_of entry) (position_of other + 1) e.1)
      ∙ ap (λ (l : ListsShape). given_on l (route_of entry)) (sym joined.is) ∙ more.here)))
      (eqb_tells (route_of entry) (route_of other))

  -- none is given where there is no room
  not_given : (way : ListsGo own lists after) (entry : Entry) → OneMore (given_on lists) (given_on after) entry → (target : ℕ)
      → LeadsTo job (route_of entry) target → IsFull lists target → ⊥
  not_given (inl same) entry more target leads full =
      one_above (position_of entry) (sym more.was ∙ ap (λ (l : ListsShape). given_on l (route_of entry)) (sym same) ∙ more.here)
  not_given (inr (inl left)) entry more target leads full =
      one_above (position_of entry) (sym more.was ∙ ap (λ (l : ListsShape). given_on l (route_of entry)) (sym left.2.1.is) ∙ more.here)
  not_given (inr (inr (stone, other, joined))) entry more target leads full =
      joined_room entry more target leads full stone other joined

  -- none is taken where there is none
  not_taken : (way : ListsGo own lists after) (stone : ℕ) → own ≡ Some stone → (entry : Entry)
      → OneMore (taken_on lists (Some stone)) (taken_on after (Some stone)) entry → IsEmpty lists stone → ⊥
  not_taken (inl same) stone of entry more empty =
      one_above (position_of entry) (sym more.was ∙ ap (λ (l : ListsShape). taken_on l (Some stone) (route_of entry)) (sym same)
      ∙ more.here)
  not_taken (inr (inl (from, is, (other, left)))) stone of entry more empty =
      let same : from ≡ stone = same_Some from stone (sym is ∙ of) in
      no_entry other left.others (sym empty ∙ ap (slice_get lists.lists) (sym same) ∙ left.was)
    where
      no_entry : (e : Entry) (others : List Entry) → Some [] ≡ Some (e ∷ others) → ⊥
      no_entry e others same = cc
  not_taken (inr (inr (target, other, joined))) stone of entry more empty =
      one_above (position_of entry) (sym more.was ∙ ap (λ (l : ListsShape). taken_on l (Some stone) (route_of entry)) (sym joined.is)
      ∙ more.here)

  -- a source's next part
  part_blocked : (old new : SourceWork) (part : Part) (turn : Turn) (target : ℕ) → LeadsTo job old.route target → IsFull lists target
      → turn ≢ Memory → PartGoes job before behind old new part turn → turn ≡ Blocked target
  part_blocked old new part Moved target leads full memory goes =
      absurd (not_given go goes.0.0 goes.0.1.given target (subst (λ (r : ℕ). LeadsTo job r target) (sym goes.0.2) leads) full)
  part_blocked old new part Idle target leads full memory goes = absurd goes
  part_blocked old new part (Blocked other) target leads full memory goes =
      ap Blocked (leads_once job old.route other target goes.0.leads leads)
  part_blocked old new part Closed target leads full memory goes = absurd goes
  part_blocked old new part Memory target leads full memory goes = absurd (memory refl)

  none_closed : (old new : SourceWork) (turn : Turn) → NoneGoes job before behind old new turn → turn ≡ Closed
  none_closed old new Moved goes = absurd goes
  none_closed old new Idle goes = absurd goes
  none_closed old new (Blocked other) goes = absurd goes
  none_closed old new Closed goes = refl
  none_closed old new Memory goes = absurd goes

  full_room : (number target : ℕ) → NoRoom before behind job number target → IsFull lists target
  full_room number target none = full_list_of lists.job.queue (slice_get lists.lists target) none.rose

  source_idle : (old new : SourceWork) (parts : List Part) → SourceGoes job before behind old new parts Idle → ⊥
  source_idle old new [] goes = goes
  source_idle old new (part ∷ parts) goes = goes

  source_blocked : (old new : SourceWork) (parts : List Part) (target : ℕ) → to_come job old ≡ parts
      → SourceGoes job before behind old new parts (Blocked target) → StandsBlockedAt lists (feeds old) target
  source_blocked old new [] target is goes = absurd goes
  source_blocked old new (part ∷ parts) target is goes = (((part, parts, is), goes.0.leads), full_room old.route target goes.0)

  source_tells : (old new : SourceWork) (turn : Turn) → SourceGoes job before behind old new (to_come job old) turn
      → Tells lists (feeds old) turn
  source_tells old new turn goes = record {
    idle = (
      λ is. source_idle old new (to_come job old) (subst (SourceGoes job before behind old new (to_come job old)) is goes),
      λ none. absurd none,
    );
    closed = (
      λ is. (found_closed job before behind (feeds old) (feeds new)
          (subst (SourceGoes job before behind old new (to_come job old)) is goes)).0,
      λ none. none_closed old new turn (subst (λ (l : List Part). SourceGoes job before behind old new l turn) none goes),
    );
    blocked = λ memory target. (
      λ is. source_blocked old new (to_come job old) target refl (subst (SourceGoes job before behind old new (to_come job old)) is goes),
      λ at. part_blocked old new at.0.0.0 turn target at.0.1 at.1 memory
          (subst (λ (l : List Part). SourceGoes job before behind old new l turn) at.0.0.2 goes),
    );
  }

  first_blocked : (old new : StoneWork) (entry : Entry) (others : List Entry) (turn : Turn) (target : ℕ)
      → LeadsTo job (route_of entry) target
      → IsFull lists target → turn ≢ Memory → FirstGoes job before behind old new entry others turn → turn ≡ Blocked target
  first_blocked old new entry others Moved target leads full memory goes = absurd (not_given go entry goes.0.given target leads full)
  first_blocked old new entry others Idle target leads full memory goes = absurd goes
  first_blocked old new entry others (Blocked other) target leads full memory goes =
      ap Blocked (leads_once job (route_of entry) other target goes.0.leads leads)
  first_blocked old new entry others Closed target leads full memory goes = absurd goes
  first_blocked old new entry others Memory target leads full memory goes = absurd (memory refl)

  next_idle : (old new : StoneWork) (turn : Turn) → own ≡ Some old.stone → Takes job old → IsEmpty lists old.stone
      → NextComes job before behind old new turn → turn ≡ Idle
  next_idle old new Moved of takes empty goes =
      absurd (not_taken go old.stone of goes.1.0
      (subst (λ (o : Option ℕ). OneMore (taken_on lists o) (taken_on after o) goes.1.0) of goes.1.1.taken) empty)
  next_idle old new Idle of takes empty goes = refl
  next_idle old new (Blocked other) of takes empty goes = absurd goes
  next_idle old new Closed of takes empty goes = absurd (takes.unended goes.0)
  next_idle old new Memory of takes empty goes = absurd goes

  next_closed : (old new : StoneWork) (turn : Turn) → HasEnded job old → NextComes job before behind old new turn → turn ≡ Closed
  next_closed old new Moved ended goes = absurd (goes.0 ended)
  next_closed old new Idle ended goes = absurd (goes.0 ended)
  next_closed old new (Blocked other) ended goes = absurd goes
  next_closed old new Closed ended goes = refl
  next_closed old new Memory ended goes = absurd goes

  -- where nothing waits and none is in hand
  module _ (old new : StoneWork) (unended : ℕ) (turn : Turn) (of : own ≡ Some old.stone)
      (goes : StoneGoes job before behind old new old.waiting old.hand turn) where
    stands_next : old.waiting ≡ [] → old.hand ≡ None → NextComes job before behind old new turn
    stands_next waiting hand =
        subst (λ (h : Option Entry). StoneGoes job before behind old new [] h turn) hand
        (subst (λ (l : List Entry). StoneGoes job before behind old new l old.hand turn) waiting goes)

    was_idle : (waiting : List Entry) (hand : Option Entry) → old.waiting ≡ waiting → old.hand ≡ hand
        → StoneGoes job before behind old new waiting hand Idle → StandsIdle lists (works old unended)
    was_idle (entry ∷ others) hand waits holds here = absurd here
    was_idle [] (Some entry) waits holds here = absurd here
    was_idle [] None waits holds here = (
      record { waiting = waits; hand = holds; unended = here.0 },
      empty_list_of (slice_get lists.lists old.stone) (subst (λ (o : Option ℕ). Rose 0 (lacks lists o)) of here.2),
    )

    was_blocked : (target : ℕ) (waiting : List Entry) (hand : Option Entry) → old.waiting ≡ waiting
        → StoneGoes job before behind old new waiting hand (Blocked target) → StandsBlockedAt lists (works old unended) target
    was_blocked target (entry ∷ others) hand waits here =
        ((entry, others, waits, here.0.leads), full_room (route_of entry) target here.0)
    was_blocked target [] (Some entry) waits here = absurd here
    was_blocked target [] None waits here = absurd here

    answered : (answer : Turn) → turn ≡ answer → StoneGoes job before behind old new old.waiting old.hand answer
    answered answer is = subst (StoneGoes job before behind old new old.waiting old.hand) is goes

    stone_tells : Tells lists (works old unended) turn
    stone_tells = record {
      idle = (
        λ is. was_idle old.waiting old.hand refl refl (answered Idle is),
        λ at. next_idle old new turn of at.0 at.1 (stands_next at.0.waiting at.0.hand),
      );
      closed = (
        λ is. (found_closed job before behind (works old unended) (works new unended) (answered Closed is)).0,
        λ at. next_closed old new turn at.2 (stands_next at.0 at.1),
      );
      blocked = λ memory target. (
        λ is. was_blocked target old.waiting old.hand refl (answered (Blocked target) is),
        λ at. first_blocked old new at.0.0 at.0.1 turn target at.0.3 at.1 memory
            (subst (λ (l : List Entry). StoneGoes job before behind old new l old.hand turn) at.0.2 goes),
      );
    }

  role_tells : (old new : Role) (turn : Turn) → own ≡ own_of old → RoleGoes job before behind old new turn → Tells lists old turn
  role_tells (feeds old) (feeds new) turn of goes = source_tells old new turn goes
  role_tells (feeds old) (works new unended) turn of goes = absurd goes
  role_tells (works old unended) (feeds new) turn of goes = absurd goes
  role_tells (works old unended) (works new still) turn of goes = stone_tells old new unended turn of goes

-- each turn's answer tells where its actor stood
pub tells : (old new : WorldShape) (number : ℕ) (turn : Turn) → WorldTurned old new number turn → AnswersFor old number turn
tells old new number turn turned actor at =
    let same : turned.was ≡ actor = same_Some turned.was actor (sym turned.there ∙ at) in
    subst (λ (a : ActorShape). Tells old.lists a.role turn) same
    (role_tells old.lists turned.after (own_of turned.was.role) turned.lists turned.was.role turned.now.role turn refl turned.turned.role)
