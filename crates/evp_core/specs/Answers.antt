-- Which answer a turn gives where.
use Rattle.std.specs.Prelude.{◌≡◌, ◌≢◌, ◌↔◌, ℕ, List, [], ◌∷◌, Some, None, slice_get}
use Rattle.evp_stone.specs.declared.entry.Entry.{Entry}
use Rattle.evp_stone.specs.declared.turn.Turn.{Turn}
use Rattle.evp_stone.specs.declared.turn.Turn.TheVariants.{Idle, Blocked, Closed, Memory}
use Rattle.evp_core.specs.Lists.{ListsShape, IsEmpty, IsFull}
use Rattle.evp_core.specs.WorldShape.{WorldShape}
use Rattle.evp_stone.specs.Actor.{Role, feeds, works, ActorShape}
use Rattle.evp_stone.specs.Closed.{IsClosed}
use Rattle.evp_stone.specs.Entries.{route_of}
use Rattle.evp_stone.specs.Feeding.{to_come}
use Rattle.evp_stone.specs.Flow.{Part}
use Rattle.evp_stone.specs.JobShape.{JobShape}
use Rattle.evp_stone.specs.Port.{LeadsTo}
use Rattle.evp_stone.specs.State.{StoneWork}
use Rattle.evp_stone.specs.Turned.{HasEnded}

-- the first entry that waits, or the next one of a source, is for this stone
abbrev pub GivesTo : JobShape → Role → ℕ → Type 0
GivesTo job (feeds work) target =
    ((part : Part) × (parts : List Part) × (to_come job work ≡ part ∷ parts))
    × LeadsTo job work.route target
GivesTo job (works work unended) target =
    (entry : Entry) × (others : List Entry) × (work.waiting ≡ entry ∷ others)
    × LeadsTo job (route_of entry) target

-- nothing waits, none is in hand, and rounds are to come
pub record Takes (job : JobShape) (work : StoneWork) : Type 0 where
  pub waiting : work.waiting ≡ []
  pub hand : work.hand ≡ None
  pub unended : HasEnded job work → ⊥

-- it takes, and there is nothing to take
abbrev pub StandsIdle : ListsShape → Role → Type 0
StandsIdle lists (feeds work) = ⊥
StandsIdle lists (works work unended) = Takes lists.job work × IsEmpty lists work.stone

-- it gives to this stone, where there is no room
abbrev pub StandsBlockedAt : ListsShape → Role → ℕ → Type 0
StandsBlockedAt lists role target = GivesTo lists.job role target × IsFull lists target

-- the answer tells where the actor stood; want of memory is free where it gives or deals
pub record Tells (lists : ListsShape) (role : Role) (turn : Turn) : Type 0 where
  pub idle : (turn ≡ Idle) ↔ StandsIdle lists role
  pub closed : (turn ≡ Closed) ↔ IsClosed lists.job role
  pub blocked : turn ≢ Memory → (target : ℕ)
      → (turn ≡ Blocked target) ↔ StandsBlockedAt lists role target

-- the answer of the turn of the actor of this number tells where it stood
abbrev pub AnswersFor : WorldShape → ℕ → Turn → Type 0
AnswersFor world number turn =
    (actor : ActorShape) → slice_get world.actors number ≡ Some actor
    → Tells world.lists actor.role turn
