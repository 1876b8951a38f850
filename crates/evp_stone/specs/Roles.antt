-- What an actor is seen as, and one turn of what it carries.
use Rattle.std.specs.Prelude.{◌≡◌, ℕ, List, [], IsSome}
use Rattle.evp_action.specs.Asking.{Keeps, BuildsFor}
use Rattle.evp_cache.specs.Known.{Cells, Known, IsCacheOf, IsPassOf, found_for}
use Rattle.evp_stone.specs.declared.actor.Role.{Role as Held}
use Rattle.evp_stone.specs.declared.actor.Role.TheVariants.{Source, Stone}
use Rattle.evp_stone.specs.declared.shared.Learnt.{Learnt}
use Rattle.evp_stone.specs.declared.turn.Turn.{Turn}
use Rattle.evp_stone.specs.Actor.{Role, feeds, works, ActorShape, HasRole, Meets}
use Rattle.evp_stone.specs.Closing.{HasRoomFor}
use Rattle.evp_stone.specs.Fed.{fed}
use Rattle.evp_stone.specs.Feeding.{to_come}
use Rattle.evp_stone.specs.JobShape.{JobShape}
use Rattle.evp_stone.specs.Port.{Counting}
use Rattle.evp_stone.specs.Seen.{seen}
use Rattle.evp_stone.specs.StoneTurn.{spare_by}
use Rattle.evp_stone.specs.Turned.{Counted, RoleGoes, HasEnded}

abbrev pub role_of : Held → Role
role_of (Source feeder) = feeds (fed feeder)
role_of (Stone worker) = works (seen worker) worker.unended

abbrev pub actor_of : Held → Learnt → ℕ → ActorShape
actor_of role learnt starved = record {
  role = role_of role;
  known = learnt.pass;
  builds = learnt.builds;
  starved = starved;
}

-- a stone's has room for the accounts of its routes
abbrev pub HasAccountRoom : Held → Type 0
HasAccountRoom (Source feeder) = Unit {0}
HasAccountRoom (Stone worker) = HasRoomFor worker

-- it is a stone's
abbrev pub IsStones : Role → Type 0
IsStones (feeds work) = ⊥
IsStones (works work unended) = Unit {0}

-- it is that of this stone
abbrev pub IsStone : Role → ℕ → Type 0
IsStone (feeds work) stone = ⊥
IsStone (works work unended) stone = work.stone ≡ stone

-- everything is done: all was given, or each round of each route has ended
abbrev pub IsDone : JobShape → Role → Type 0
IsDone job (feeds work) = to_come job work ≡ []
IsDone job (works work unended) = HasEnded job work

-- all that is known is of formats between which it converts
abbrev pub AreMet : JobShape → Role → List Known → Type 0
AreMet job role known = (from to : ℕ) → IsSome (found_for known from to) → Meets job role from to

-- what a turn wants to be so
pub record CanGo (job : JobShape) (cells : Cells) (taken given : Counting) (held : Held)
    (known : List Known) : Type 0 where
  pub cache : IsCacheOf cells job.formats
  pub declared : cells.declared ≡ job.declared
  pub role : HasRole job taken given (role_of held)
  pub pass : IsPassOf cells job.formats known
  pub met : AreMet job (role_of held) known
  pub room : HasAccountRoom held

-- all that a turn does, by the counts of its port
pub record Goes (job : JobShape) (cells : Cells) (before after : Counted) (old new : Held)
    (known later : List Known) (built now : ℕ) (turn : Turn) : Type 0 where
  pub role : HasRole job after.taken after.given (role_of new)
  pub met : AreMet job (role_of new) later
  pub room : HasAccountRoom new
  pub keeps : Keeps cells job.formats known later
  pub builds : BuildsFor (spare_by turn) known later built now
  pub turned : RoleGoes job before after (role_of old) (role_of new) turn
