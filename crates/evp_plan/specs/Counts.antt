-- A count that stays at its last value.
use Rattle.std.specs.Prelude.{ℕ, ◌+◌, ◌-◌, ◌^◌, min}

abbrev pub raised : ℕ → ℕ
raised n = min (n + 1) (2 ^ 64 - 1)
