-- Elements of lists, and numbers that differ by one.
use Rattle.std.proofs.Common.{◌≡◌, ℕ, ◌+◌, Some, arith}
use Rattle.std.proofs.lemmas.Option.{same_Some}

pub one_above : (n : ℕ) → Some n ≡ Some (n + 1) → ⊥
one_above n same = let e : n ≡ n + 1 = same_Some n (n + 1) same in omega arith
