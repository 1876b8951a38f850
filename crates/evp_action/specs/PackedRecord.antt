-- The bytes of a packed record that isn't shared yet.
use Rattle.std.specs.Prelude.{ℕ, ◌≤◌, List, take, ⊤}
use Rattle.evp_action.specs.declared.packed.Packed.{Packed}
use Rattle.evp_action.specs.declared.packed.Packed.TheVariants.{InRoom, Own}

-- so many of this room, or its own
abbrev pub bytes_in : List ℕ → Packed → List ℕ
bytes_in room (InRoom size) = take size room
bytes_in room (Own bytes) = bytes.items

-- no more of a room are meant than it has
abbrev pub LiesInRoom : Packed → Type 0
LiesInRoom (InRoom size) = size ≤ 72
LiesInRoom (Own bytes) = ⊤
