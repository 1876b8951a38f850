-- Whose stone's list an actor takes from.
use Rattle.std.specs.Prelude.{ℕ, ◌-◌, if◌then◌else◌, Option, Some, None, nat_lt}

-- the stone from whose list the actor of this number takes, where so many sources come first
abbrev pub own_at : ℕ → ℕ → Option ℕ
own_at sources number = if nat_lt number sources then None else Some (number - sources)
