-- A number below 0 modulo a power, by a number from 0 on.
use Rattle.std.proofs.Common.{◌≡◌, ℕ, ◌-◌, ◌%◌, ◌*◌, ◌^◌, ◌<◌, ◌∙◌, ℤ, pos, negsuc, ◌-ℤ◌, ◌+ℤ◌, ◌<ℤ◌, ap, arith}
use Rattle.std.proofs.lemmas.Int.{ints}
use Rattle.std.proofs.Math.Nat.{mod-eq_of_lt}
use Rattle.evp_base.specs.declared.order.Order.{Order}
use Rattle.evp_base.specs.Numbers.{residue, digits, low_first, low_digits}

pub residue-below : (z : ℤ) (m k : ℕ) → z <ℤ pos 0 → pos k ≡ pos 0 -ℤ (z +ℤ pos 1) → residue z m ≡ m - 1 - k % m
residue-below (pos n) m k low is = absurd (omega (arith, ints, low))
residue-below (negsuc n) m k low is = let same : n ≡ k = omega (arith, ints, is) in ap (λ (i : ℕ). m - 1 - i % m) same

-- the digits of a number are those of what it is modulo the power
pub digits-low : (order : Order) (size : ℕ) (n : ℤ) (r : ℕ) → r ≡ residue n (2 ^ (8 * size)) → r < 2 ^ (8 * size)
    → digits order size (pos r) ≡ digits order size n
digits-low order size n r is below =
    let same : r % 2 ^ (8 * size) ≡ residue n (2 ^ (8 * size)) = mod-eq_of_lt below ∙ is in
    ap (λ (m : ℕ). low_first order (low_digits size m)) same
