-- A turn that doesn't move leaves the lists and the actor's work as they were.
use Rattle.std.proofs.Common.{◌≡◌, ◌≢◌, ℕ, ◌+◌, List, [], ◌∷◌, Option, Some, None, refl, sym, ap, ◌∙◌, eq-eqb, inl, inr}
use Rattle.std.specs.Prelude.{if◌then◌else◌, Bool}
use Rattle.std.specs.List.{slice_get}
use Rattle.evp_graph.specs.declared.route.Route.{Route}
use Rattle.evp_stone.specs.declared.entry.Entry.{Entry}
use Rattle.evp_stone.specs.declared.turn.Turn.{Turn}
use Rattle.evp_stone.specs.declared.turn.Turn.TheVariants.{Moved, Idle, Blocked, Closed, Memory}
use Rattle.evp_stone.specs.Actor.{Role, feeds, works}
use Rattle.evp_stone.specs.Entries.{route_of, position_of}
use Rattle.evp_stone.specs.Feeding.{SourceWork, to_come}
use Rattle.evp_stone.specs.Flow.{Part}
use Rattle.evp_stone.specs.JobShape.{JobShape}
use Rattle.evp_stone.specs.Route.{last_stone}
use Rattle.evp_stone.specs.State.{StoneWork}
use Rattle.evp_stone.specs.Turned.{Counted, CountsStay, RoleGoes, StoneGoes, FirstGoes, HandGoes, NextComes, SourceGoes, PartGoes}
use Rattle.evp_stone.specs.Turned.{NoneGoes}
use Rattle.evp_stone.proofs.Change.{set_here}
use Rattle.evp_core.specs.Lists.{ListsShape, HasLists, ListsGo, taken_on, given_on, where_ends, left_by}
use Rattle.evp_core.specs.Progress.{due_of}
use Rattle.evp_core.specs.WorldTurned.{counts_before, counts_behind}
use Rattle.evp_core.proofs.Elements.{one_above}
use Rattle.evp_core.proofs.ListsKeep.{is_first}

-- the work stays
abbrev pub IsSameWork : Role → Role → Type 0
IsSameWork (feeds old) (feeds new) = new ≡ old
IsSameWork (feeds old) (works new unended) = ⊥
IsSameWork (works old unended) (feeds new) = ⊥
IsSameWork (works old unended) (works new still) = new ≡ old

pub same_due : (old new : Role) → IsSameWork old new → due_of new ≡ due_of old
same_due (feeds old) (feeds new) same = refl
same_due (feeds old) (works new unended) same = absurd same
same_due (works old unended) (feeds new) same = absurd same
same_due (works old unended) (works new still) same = ap (λ (w : StoneWork). due_of (works w 0)) same

module _ (job : JobShape) (before after : Counted) where
  abbrev Stays : Type 0
  Stays = CountsStay before after

  part_rests : (old new : SourceWork) (part : Part) (turn : Turn) → turn ≢ Moved → PartGoes job before after old new part turn
      → Stays × (new ≡ old)
  part_rests old new part Moved rests goes = absurd (rests refl)
  part_rests old new part Idle rests goes = absurd goes
  part_rests old new part (Blocked target) rests goes = (goes.0.same, goes.1)
  part_rests old new part Closed rests goes = absurd goes
  part_rests old new part Memory rests goes = goes

  none_rests : (old new : SourceWork) (turn : Turn) → NoneGoes job before after old new turn → Stays × (new ≡ old)
  none_rests old new Moved goes = absurd goes
  none_rests old new Idle goes = absurd goes
  none_rests old new (Blocked target) goes = absurd goes
  none_rests old new Closed goes = goes
  none_rests old new Memory goes = absurd goes

  source_rests : (old new : SourceWork) (parts : List Part) (turn : Turn) → turn ≢ Moved → SourceGoes job before after old new parts turn
      → Stays × (new ≡ old)
  source_rests old new [] turn rests goes = none_rests old new turn goes
  source_rests old new (part ∷ parts) turn rests goes = part_rests old new part turn rests goes

  first_rests : (old new : StoneWork) (entry : Entry) (others : List Entry) (turn : Turn) → turn ≢ Moved
      → FirstGoes job before after old new entry others turn → Stays × (new ≡ old)
  first_rests old new entry others Moved rests goes = absurd (rests refl)
  first_rests old new entry others Idle rests goes = absurd goes
  first_rests old new entry others (Blocked target) rests goes = (goes.0.same, goes.1)
  first_rests old new entry others Closed rests goes = absurd goes
  first_rests old new entry others Memory rests goes = goes

  hand_rests : (old new : StoneWork) (entry : Entry) (turn : Turn) → turn ≢ Moved → HandGoes job before after old new entry turn
      → Stays × (new ≡ old)
  hand_rests old new entry Moved rests goes = absurd (rests refl)
  hand_rests old new entry Idle rests goes = absurd goes
  hand_rests old new entry (Blocked target) rests goes = absurd goes
  hand_rests old new entry Closed rests goes = absurd goes
  hand_rests old new entry Memory rests goes = goes

  next_rests : (old new : StoneWork) (turn : Turn) → turn ≢ Moved → NextComes job before after old new turn → Stays × (new ≡ old)
  next_rests old new Moved rests goes = absurd (rests refl)
  next_rests old new Idle rests goes = (goes.1, goes.3)
  next_rests old new (Blocked target) rests goes = absurd goes
  next_rests old new Closed rests goes = (goes.1, goes.2)
  next_rests old new Memory rests goes = absurd goes

  stone_rests : (old new : StoneWork) (waiting : List Entry) (hand : Option Entry) (turn : Turn) → turn ≢ Moved
      → StoneGoes job before after old new waiting hand turn → Stays × (new ≡ old)
  stone_rests old new (entry ∷ others) hand turn rests goes = first_rests old new entry others turn rests goes
  stone_rests old new [] (Some entry) turn rests goes = hand_rests old new entry turn rests goes
  stone_rests old new [] None turn rests goes = next_rests old new turn rests goes

  pub role_rests : (old new : Role) (turn : Turn) → turn ≢ Moved → RoleGoes job before after old new turn
      → Stays × IsSameWork old new
  role_rests (feeds old) (feeds new) turn rests goes = source_rests old new (to_come job old) turn rests goes
  role_rests (feeds old) (works new unended) turn rests goes = absurd goes
  role_rests (works old unended) (feeds new) turn rests goes = absurd goes
  role_rests (works old unended) (works new still) turn rests goes = stone_rests old new old.waiting old.hand turn rests goes

-- where no count moved nothing left a list or joined one
pub lists_rest : (own : Option ℕ) (old new : ListsShape) → HasLists old → ListsGo own old new
    → CountsStay (counts_before old own) (counts_behind old new own) → new ≡ old
lists_rest own old new has (inl same) stay = same
lists_rest own old new has (inr (inl (stone, of, (entry, left)))) stay =
    let first = is_first old has stone entry left.others left.was in
    let ends : (l : ListsShape) → l.job ≡ old.job → taken_on l (Some stone) (route_of entry) ≡ slice_get l.taken (route_of entry) =
    λ l same.
    ap (λ (r : Option Route). where_ends stone r (slice_get l.taken (route_of entry)))
    (ap (λ (j : JobShape). slice_get j.routes (route_of entry)) same ∙ first.leads.there)
    ∙ ap (λ (b : Bool). if b then slice_get l.taken (route_of entry) else None)
    (eq-eqb (last_stone first.leads.route) stone first.leads.last) in
    let now : taken_on new (Some stone) (route_of entry) ≡ Some (position_of entry + 1) =
    ap (λ (l : ListsShape). taken_on l (Some stone) (route_of entry)) left.is
    ∙ ends (left_by old stone entry left.others) refl
    ∙ set_here old.taken (route_of entry) (position_of entry) (position_of entry + 1) left.count in
    let was : taken_on old (Some stone) (route_of entry) ≡ Some (position_of entry) = ends old refl ∙ left.count in
    absurd (one_above (position_of entry)
    (sym (sym now ∙ ap (λ (o : Option ℕ). taken_on new o (route_of entry)) (sym of) ∙ stay.taken (route_of entry)
    ∙ ap (λ (o : Option ℕ). taken_on old o (route_of entry)) of ∙ was)))
lists_rest own old new has (inr (inr (stone, entry, joined))) stay =
    let now : given_on new (route_of entry) ≡ Some (position_of entry + 1) =
    ap (λ (l : ListsShape). given_on l (route_of entry)) joined.is
    ∙ set_here old.given (route_of entry) (position_of entry) (position_of entry + 1) joined.count in
    absurd (one_above (position_of entry) (sym (sym now ∙ stay.given (route_of entry) ∙ joined.count)))
