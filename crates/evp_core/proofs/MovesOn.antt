-- An actor that can move does so in its next turn, unless there is no memory.
use Rattle.std.proofs.Common.{◌≡◌, ◌⊎◌, ℕ, List, [], ◌∷◌, length, Option, Some, None}
use Rattle.std.proofs.Common.{refl, sym, ap, subst, ◌∙◌, arith, inl, inr, ⊎_elim, ne_eqb}
use Rattle.std.proofs.lemmas.Option.{same_Some}
use Rattle.std.specs.Prelude.{if◌then◌else◌}
use Rattle.std.specs.List.{slice_get}
use Rattle.evp_stone.specs.declared.entry.Entry.{Entry}
use Rattle.evp_stone.specs.declared.turn.Turn.{Turn}
use Rattle.evp_stone.specs.declared.turn.Turn.TheVariants.{Moved, Idle, Blocked, Closed, Memory}
use Rattle.evp_stone.specs.Actor.{Role, feeds, works, ActorShape}
use Rattle.evp_stone.specs.Entries.{route_of}
use Rattle.evp_stone.specs.Feeding.{SourceWork, to_come}
use Rattle.evp_stone.specs.Flow.{Part}
use Rattle.evp_stone.specs.JobShape.{JobShape}
use Rattle.evp_stone.specs.Port.{LeadsTo, Rose}
use Rattle.evp_stone.specs.State.{StoneWork}
use Rattle.evp_stone.specs.Turned.{Counted, RoleGoes, StoneGoes, FirstGoes, HandGoes, NextComes, SourceGoes, PartGoes, NoRoom}
use Rattle.evp_core.specs.Answers.{Takes}
use Rattle.evp_core.specs.Lists.{ListsShape}
use Rattle.evp_core.specs.Moving.{Moves}
use Rattle.evp_core.specs.WorldShape.{WorldShape, own_of}
use Rattle.evp_core.specs.WorldTurned.{counts_before, counts_behind, crowds, lacks, one_if_long, one_if_empty}
use Rattle.evp_core.proofs.ListsKeep.{leads_once}
use Rattle.evp_core.proofs.Stages.{CanMove, CanWork, HasRoom}

abbrev Goes : Turn → Type 0
Goes turn = (turn ≡ Moved) ⊎ (turn ≡ Memory)

-- a list that has room doesn't count as full
no_rise : (lists : ListsShape) (stone : ℕ) → HasRoom lists stone → Rose 0 (crowds lists stone) → ⊥
no_rise lists stone room rose =
    let none : crowds lists stone ≡ 0 = ap (one_if_long lists.job.queue) room.1
    ∙ ap (λ b. if b then 1 else 0) (ne_eqb (length room.0) lists.job.queue room.2) in
    ⊎_elim (λ more. absurd (omega arith)) (λ last. absurd (omega arith)) rose

-- nor does one that has an entry count as empty
no_lack : (lists : ListsShape) (stone : ℕ) (entry : Entry) (others : List Entry) → slice_get lists.lists stone ≡ Some (entry ∷ others)
    → Rose 0 (lacks lists (Some stone)) → ⊥
no_lack lists stone entry others at rose =
    let none : lacks lists (Some stone) ≡ 0 = ap one_if_empty at in
    ⊎_elim (λ more. absurd (omega arith)) (λ last. absurd (omega arith)) rose

module _ (lists after : ListsShape) (own : Option ℕ) where
  abbrev job : JobShape
  job = lists.job

  abbrev before : Counted
  before = counts_before lists own

  abbrev behind : Counted
  behind = counts_behind lists after own

  blocked_not : (number target other : ℕ) → LeadsTo job number target → HasRoom lists target → NoRoom before behind job number other → ⊥
  blocked_not number target other leads room none =
      let same : other ≡ target = leads_once job number other target none.leads leads in
      no_rise lists target room (subst (λ (t : ℕ). Rose 0 (crowds lists t)) same none.rose)

  first_goes : (old new : StoneWork) (entry : Entry) (others : List Entry) (turn : Turn) (target : ℕ) → LeadsTo job (route_of entry) target
      → HasRoom lists target → FirstGoes job before behind old new entry others turn → Goes turn
  first_goes old new entry others Moved target leads room goes = inl refl
  first_goes old new entry others Idle target leads room goes = absurd goes
  first_goes old new entry others (Blocked other) target leads room goes =
      absurd (blocked_not (route_of entry) target other leads room goes.0)
  first_goes old new entry others Closed target leads room goes = absurd goes
  first_goes old new entry others Memory target leads room goes = inr refl

  part_goes : (old new : SourceWork) (part : Part) (turn : Turn) (target : ℕ) → LeadsTo job old.route target
      → HasRoom lists target → PartGoes job before behind old new part turn → Goes turn
  part_goes old new part Moved target leads room goes = inl refl
  part_goes old new part Idle target leads room goes = absurd goes
  part_goes old new part (Blocked other) target leads room goes = absurd (blocked_not old.route target other leads room goes.0)
  part_goes old new part Closed target leads room goes = absurd goes
  part_goes old new part Memory target leads room goes = inr refl

  hand_goes : (old new : StoneWork) (entry : Entry) (turn : Turn) → HandGoes job before behind old new entry turn → Goes turn
  hand_goes old new entry Moved goes = inl refl
  hand_goes old new entry Idle goes = absurd goes
  hand_goes old new entry (Blocked other) goes = absurd goes
  hand_goes old new entry Closed goes = absurd goes
  hand_goes old new entry Memory goes = inr refl

  next_goes : (old new : StoneWork) (turn : Turn) → own ≡ Some old.stone → Takes job old → (entry : Entry) (others : List Entry)
      → slice_get lists.lists old.stone ≡ Some (entry ∷ others) → NextComes job before behind old new turn → Goes turn
  next_goes old new Moved of takes entry others at goes = inl refl
  next_goes old new Idle of takes entry others at goes =
      absurd (no_lack lists old.stone entry others at (subst (λ (o : Option ℕ). Rose 0 (lacks lists o)) of goes.2))
  next_goes old new (Blocked other) of takes entry others at goes = absurd goes
  next_goes old new Closed of takes entry others at goes = absurd (takes.unended goes.0)
  next_goes old new Memory of takes entry others at goes = absurd goes

  stone_works : (old new : StoneWork) (unended : ℕ) (turn : Turn) → own ≡ Some old.stone → CanWork lists (works old unended)
      → StoneGoes job before behind old new old.waiting old.hand turn → Goes turn
  stone_works old new unended turn of (inl deals) goes =
      let here : StoneGoes job before behind old new [] (Some deals.1.0) turn =
      subst (λ (h : Option Entry). StoneGoes job before behind old new [] h turn) deals.1.1
      (subst (λ (l : List Entry). StoneGoes job before behind old new l old.hand turn) deals.0 goes) in
      hand_goes old new deals.1.0 turn here
  stone_works old new unended turn of (inr takes) goes =
      let here : StoneGoes job before behind old new [] None turn =
      subst (λ (h : Option Entry). StoneGoes job before behind old new [] h turn) takes.0.hand
      (subst (λ (l : List Entry). StoneGoes job before behind old new l old.hand turn) takes.0.waiting goes) in
      next_goes old new turn of takes.0 takes.1.0 takes.1.1 takes.1.2 here

  stone_goes : (old new : StoneWork) (unended : ℕ) (turn : Turn) → own ≡ Some old.stone → CanMove lists (works old unended)
      → StoneGoes job before behind old new old.waiting old.hand turn → Goes turn
  stone_goes old new unended turn of (inl (target, gives, room)) goes =
      first_goes old new gives.0 gives.1 turn target gives.3 room
      (subst (λ (l : List Entry). StoneGoes job before behind old new l old.hand turn) gives.2 goes)
  stone_goes old new unended turn of (inr works') goes = stone_works old new unended turn of works' goes

  source_goes : (old new : SourceWork) (turn : Turn) → CanMove lists (feeds old)
      → SourceGoes job before behind old new (to_come job old) turn → Goes turn
  source_goes old new turn (inl (target, gives, room)) goes =
      part_goes old new gives.0.0 turn target gives.1 room
      (subst (λ (l : List Part). SourceGoes job before behind old new l turn) gives.0.2 goes)
  source_goes old new turn (inr works') goes = absurd works'

  role_goes : (old new : Role) (turn : Turn) → own ≡ own_of old → CanMove lists old → RoleGoes job before behind old new turn → Goes turn
  role_goes (feeds old) (feeds new) turn of can goes = source_goes old new turn can goes
  role_goes (feeds old) (works new unended) turn of can goes = absurd goes
  role_goes (works old unended) (feeds new) turn of can goes = absurd goes
  role_goes (works old unended) (works new still) turn of can goes = stone_goes old new unended turn of can goes

-- its next turn moves
pub moves_on : (world : WorldShape) (number : ℕ) (actor : ActorShape) → slice_get world.actors number ≡ Some actor
    → CanMove world.lists actor.role → Moves world number
moves_on world number actor at can new turn turned =
    let same : actor ≡ turned.was = same_Some actor turned.was (sym at ∙ turned.there) in
    role_goes world.lists turned.after (own_of turned.was.role) turned.was.role turned.now.role turn refl
    (subst (λ (a : ActorShape). CanMove world.lists a.role) same can) turned.turned.role
