-- An actor stays that of its source or stone in each turn, and one whose turn found that all is done is closed.
use Rattle.std.proofs.Common.{◌≡◌, ℕ, Bool, true, false, List, [], ◌∷◌, Option, Some, None, refl, sym, ap, subst, ◌∙◌}
use Rattle.evp_stone.specs.declared.entry.Entry.{Entry}
use Rattle.evp_stone.specs.declared.entry.Entry.TheVariants.{Item, Mark}
use Rattle.evp_stone.specs.declared.turn.Turn.{Turn}
use Rattle.evp_stone.specs.declared.turn.Turn.TheVariants.{Moved, Idle, Blocked, Closed, Memory}
use Rattle.evp_stone.specs.Actor.{Role, feeds, works}
use Rattle.evp_stone.specs.Closed.{IsClosed}
use Rattle.evp_stone.specs.Feeding.{SourceWork, to_come}
use Rattle.evp_stone.specs.Flow.{Part}
use Rattle.evp_stone.specs.JobShape.{JobShape}
use Rattle.evp_stone.specs.Opening.{IsNumbered}
use Rattle.evp_stone.specs.State.{Received, RouteWork, StoneWork, is_frozen, round_in}
use Rattle.evp_stone.specs.Turned.{Counted, SourceGoes, StoneGoes, RoleGoes}
use Rattle.evp_stone.specs.Turning.{Deals}

-- it stays the actor of the same source or stone
abbrev pub IsSame : Role → Role → Type 0
IsSame (feeds old) (feeds new) = new.source ≡ old.source
IsSame (feeds old) (works new unended) = ⊥
IsSame (works old unended) (feeds new) = ⊥
IsSame (works old unended) (works new still) = new.stone ≡ old.stone

abbrev source_of : SourceWork → ℕ
source_of work = work.source

abbrev stone_of : StoneWork → ℕ
stone_of work = work.stone

module _ (job : JobShape) (before after : Counted) where
  source_stays : (old new : SourceWork) (parts : List Part) (turn : Turn) → SourceGoes job before after old new parts turn
      → new.source ≡ old.source
  source_stays old new [] Moved goes = absurd goes
  source_stays old new [] Idle goes = absurd goes
  source_stays old new [] (Blocked target) goes = absurd goes
  source_stays old new [] Closed goes = ap source_of goes.1
  source_stays old new [] Memory goes = absurd goes
  source_stays old new (part ∷ parts) Moved goes = goes.1.source
  source_stays old new (part ∷ parts) Idle goes = absurd goes
  source_stays old new (part ∷ parts) (Blocked target) goes = ap source_of goes.1
  source_stays old new (part ∷ parts) Closed goes = absurd goes
  source_stays old new (part ∷ parts) Memory goes = ap source_of goes.1

  deals_stay : (old new : StoneWork) (place : ℕ) (here : RouteWork) (frozen : Bool) (kept : List Received) (entry : Entry)
      → Deals job old new place here frozen kept entry → new.stone ≡ old.stone
  deals_stay old new place here true kept (Item route position index owned) is = ap stone_of is
  deals_stay old new place here true kept (Mark route position round) ended = ap stone_of ended.is
  deals_stay old new place here false (r ∷ kept) entry acted = ap stone_of acted.is
  deals_stay old new place here false [] (Item route position index owned) acted = ap stone_of acted.is
  deals_stay old new place here false [] (Mark route position round) ended = ap stone_of ended.is

  stone_stays : (old new : StoneWork) (waiting : List Entry) (hand : Option Entry) (turn : Turn)
      → StoneGoes job before after old new waiting hand turn → new.stone ≡ old.stone
  stone_stays old new (entry ∷ others) hand Moved goes = ap stone_of goes.1
  stone_stays old new (entry ∷ others) hand Idle goes = absurd goes
  stone_stays old new (entry ∷ others) hand (Blocked target) goes = ap stone_of goes.1
  stone_stays old new (entry ∷ others) hand Closed goes = absurd goes
  stone_stays old new (entry ∷ others) hand Memory goes = ap stone_of goes.1
  stone_stays old new [] (Some entry) Moved goes =
      let turn = goes.1 in
      deals_stay old new turn.place turn.here (is_frozen job old.stone (round_in turn.here)) turn.here.kept entry turn.deals
  stone_stays old new [] (Some entry) Idle goes = absurd goes
  stone_stays old new [] (Some entry) (Blocked target) goes = absurd goes
  stone_stays old new [] (Some entry) Closed goes = absurd goes
  stone_stays old new [] (Some entry) Memory goes = ap stone_of goes.1
  stone_stays old new [] None Moved goes = ap stone_of goes.1.2
  stone_stays old new [] None Idle goes = ap stone_of goes.3
  stone_stays old new [] None (Blocked target) goes = absurd goes
  stone_stays old new [] None Closed goes = ap stone_of goes.2
  stone_stays old new [] None Memory goes = absurd goes

  pub role_stays : (old new : Role) (turn : Turn) → RoleGoes job before after old new turn → IsSame old new
  role_stays (feeds old) (feeds new) turn goes = source_stays old new (to_come job old) turn goes
  role_stays (feeds old) (works new unended) turn goes = goes
  role_stays (works old unended) (feeds new) turn goes = goes
  role_stays (works old unended) (works new still) turn goes = stone_stays old new old.waiting old.hand turn goes

  source_closed : (old new : SourceWork) (parts : List Part) → SourceGoes job before after old new parts Closed
      → (parts ≡ []) × (new ≡ old)
  source_closed old new [] goes = (refl, goes.1)
  source_closed old new (part ∷ parts) goes = absurd goes

  stone_closed : (old new : StoneWork) (unended : ℕ) (waiting : List Entry) (hand : Option Entry) → old.waiting ≡ waiting
      → old.hand ≡ hand → StoneGoes job before after old new waiting hand Closed → IsClosed job (works old unended) × (new ≡ old)
  stone_closed old new unended (entry ∷ others) hand waits holds goes = absurd goes
  stone_closed old new unended [] (Some entry) waits holds goes = absurd goes
  stone_closed old new unended [] None waits holds goes = ((waits, holds, goes.0), goes.2)

  -- before the turn it was closed, and behind it it is
  pub found_closed : (old new : Role) → RoleGoes job before after old new Closed → IsClosed job old × IsClosed job new
  found_closed (feeds old) (feeds new) goes =
      let closed = source_closed old new (to_come job old) goes in (closed.0, ap (to_come job) closed.1 ∙ closed.0)
  found_closed (feeds old) (works new unended) goes = absurd goes
  found_closed (works old unended) (feeds new) goes = absurd goes
  found_closed (works old unended) (works new still) goes =
      let closed = stone_closed old new unended old.waiting old.hand refl refl goes in
      (closed.0, subst (λ (w : StoneWork). IsClosed job (works w still)) (sym closed.1) closed.0)

-- and has the same number
pub numbered_still : (job : JobShape) (number : ℕ) (old new : Role) → IsSame old new → IsNumbered job number old
    → IsNumbered job number new
numbered_still job number (feeds old) (feeds new) same is = (is.0, same ∙ is.1)
numbered_still job number (feeds old) (works new unended) same is = absurd same
numbered_still job number (works old unended) (feeds new) same is = absurd same
numbered_still job number (works old unended) (works new still) same is = rw same is
