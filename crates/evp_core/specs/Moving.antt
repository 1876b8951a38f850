-- Actors that are done, and those that can go on.
use Rattle.std.specs.Prelude.{◌≡◌, ℕ, ◌⊎◌, Some, slice_get}
use Rattle.evp_stone.specs.declared.turn.Turn.{Turn}
use Rattle.evp_stone.specs.declared.turn.Turn.TheVariants.{Moved, Memory}
use Rattle.evp_core.specs.WorldShape.{WorldShape}
use Rattle.evp_core.specs.WorldTurned.{WorldTurned}
use Rattle.evp_stone.specs.Actor.{ActorShape}
use Rattle.evp_stone.specs.Closed.{IsClosed}

abbrev pub AreClosed : WorldShape → Type 0
AreClosed world =
    (number : ℕ) (actor : ActorShape) → slice_get world.actors number ≡ Some actor
    → IsClosed world.lists.job actor.role

-- the next turn of the actor of this number moves, or finds no memory
abbrev pub Moves : WorldShape → ℕ → Type 0
Moves world number =
    (new : WorldShape) (turn : Turn) → WorldTurned world new number turn
    → (turn ≡ Moved) ⊎ (turn ≡ Memory)

-- while some actor isn't closed, some actor's next turn moves or finds no memory
abbrev pub CanGoOn : WorldShape → Type 0
CanGoOn world =
    AreClosed world
    ⊎ ((number : ℕ) × ((actor : ActorShape) × (slice_get world.actors number ≡ Some actor))
    × Moves world number)
