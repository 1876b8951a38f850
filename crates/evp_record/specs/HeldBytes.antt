-- The bytes of a record that is shared, by where they lie.
use Rattle.std.specs.Prelude.{ℕ, ◌≤◌, List, take, ⊤}
use Rattle.evp_record.specs.declared.record_bytes.Held.{Held}
use Rattle.evp_record.specs.declared.record_bytes.Held.TheVariants.{Short, Long}

-- so many in the value itself, or those of a vector
abbrev pub held_bytes : Held → List ℕ
held_bytes (Short size bytes) = take size bytes
held_bytes (Long bytes) = bytes.items

-- no more than have room there are meant
abbrev pub IsHeld : Held → Type 0
IsHeld (Short size bytes) = size ≤ 38
IsHeld (Long bytes) = ⊤
