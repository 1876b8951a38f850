-- Counts of events, which never fall and stay at the last value of their type.
use Rattle.std.specs.Prelude.{ℕ, ◌+◌, ◌<◌, ◌≤◌, nat_lt, if◌then◌else◌, ◌⊎◌}
use Rattle.std.proofs.Common.{arith}

-- the last value of a `u64`
abbrev pub last_count : ℕ
last_count = 18446744073709551615

-- the last value of a `u32`
abbrev pub last_call : ℕ
last_call = 4294967295

-- a count after one more event
abbrev pub next_count : ℕ → ℕ
next_count count = if nat_lt count last_count then count + 1 else count

-- a call's number after one more call
abbrev pub next_call : ℕ → ℕ
next_call call = if nat_lt call last_call then call + 1 else call

-- a count rose, or it was at its last value, where it stays
abbrev pub Rose : ℕ → ℕ → Type 0
Rose before after = (before < after) ⊎ (last_count ≤ before)

-- a count that rose after it didn't fall has risen
pub Rose-after : (before between after : ℕ) → before ≤ between → between ≤ after
    → Rose between after → Rose before after
Rose-after before between after first second rose = grind arith
