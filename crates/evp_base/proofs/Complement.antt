-- Two's complement: residues and signs.
use Rattle.std.proofs.Common.{◌≡◌, ℕ, suc, ◌-◌, ◌*◌, ◌%◌, ◌^◌, ◌<◌, ◌≤◌, ℤ, pos, negsuc, ◌+ℤ◌, ◌-ℤ◌, ◌≤ℤ◌, ◌<ℤ◌, ◌⊎◌, inl, inr, IsTrue}
use Rattle.std.proofs.Common.{nat_lt, if◌then◌else◌, ap, ◌∙◌, arith}
use Rattle.std.proofs.Math.Nat.{pow-succ', pow-le-pow_right, mod-eq_of_lt}
use Rattle.std.proofs.lemmas.Bool.{cases_lt, lt-ltb, le-ltb}
use Rattle.std.proofs.lemmas.Int.{ints}
use Rattle.std.proofs.lemmas.Bool.Decides.{nat_tests}
use Rattle.evp_base.specs.Numbers.{residue, is_width}

-- half of what `size` bytes can hold, for a size above 0
pub halved : (size : ℕ) → 0 < size → 2 ^ (8 * size) ≡ 2 * 2 ^ (8 * size - 1)
halved size some =
    let whole : 8 * size ≡ suc (8 * size - 1) = omega arith in
    ap (λ (bits : ℕ). 2 ^ bits) whole ∙ pow-succ' 2 (8 * size - 1)

-- a residue is below its modulus
pub residue-lt : (n : ℤ) (m : ℕ) → 0 < m → residue n m < m
residue-lt (pos n) m some = omega arith
residue-lt (negsuc n) m some = omega arith

-- a signed number comes back from its residue, where h is half of the modulus
pub signed-residue : (h m : ℕ) (n : ℤ) → 0 < h → m ≡ 2 * h → (pos 0 -ℤ pos h) ≤ℤ n → n ≤ℤ pos (h - 1)
    → (if nat_lt (2 * residue n m) m then pos (residue n m) else pos (residue n m) -ℤ pos m) ≡ n
signed-residue h m (pos n) some half low high =
    let small : n < h = omega (arith, ints) in
    let same : n % m ≡ n = mod-eq_of_lt (omega arith) in
    rw same (grind (arith, nat_tests))
signed-residue h m (negsuc n) some half low high =
    let small : n < h = omega (arith, ints) in
    let same : n % m ≡ n = mod-eq_of_lt (omega arith) in
    rw same (grind (arith, ints, nat_tests))

-- an unsigned number below the modulus is its own residue
pub residue-pos : (n : ℤ) (m top : ℕ) → top < m → pos 0 ≤ℤ n → n ≤ℤ pos top → pos (residue n m) ≡ n
residue-pos (pos n) m top small low high = ap pos (mod-eq_of_lt (omega (arith, ints)))
residue-pos (negsuc n) m top small low high = absurd (omega (arith, ints))

-- a negative number is below its residue by the modulus, where h is half of that
pub residue-negative : (h m : ℕ) (n : ℤ) → m ≡ 2 * h → (pos 0 -ℤ pos h) ≤ℤ n → n <ℤ pos 0 → pos (residue n m) ≡ n +ℤ pos m
residue-negative h m (pos n) half low below = absurd (omega (arith, ints))
residue-negative h m (negsuc n) half low below =
    let small : n < h = omega (arith, ints) in
    let same : n % m ≡ n = mod-eq_of_lt (omega arith) in
    rw same (omega (arith, ints))

-- a residue comes back from its signed number
pub residue-signed : (m r : ℕ) → r < m → residue (if nat_lt (2 * r) m then pos r else pos r -ℤ pos m) m ≡ r
residue-signed m r below = elim (cases_lt (2 * r) m) [
  | inl less ↦ rw (lt-ltb (2 * r) m less) (mod-eq_of_lt below)
  | inr more ↦
      let k : ℕ = m - 1 - r in
      let number : (pos r -ℤ pos m) ≡ negsuc k = omega (arith, ints) in
      let same : k % m ≡ k = mod-eq_of_lt (omega arith) in
      rw (le-ltb (2 * r) m more, number, same) (omega arith)
]

-- a signed number lies from -h to h - 1, where h is half of the modulus
pub signed-range : (h m r : ℕ) → 0 < h → m ≡ 2 * h → r < m
    → ((pos 0 -ℤ pos h) ≤ℤ (if nat_lt (2 * r) m then pos r else pos r -ℤ pos m))
    × ((if nat_lt (2 * r) m then pos r else pos r -ℤ pos m) ≤ℤ pos (h - 1))
signed-range h m r some half below = elim (cases_lt (2 * r) m) [
  | inl less ↦ rw (lt-ltb (2 * r) m less) (omega (arith, ints), omega (arith, ints))
  | inr more ↦ rw (le-ltb (2 * r) m more) (omega (arith, ints), omega (arith, ints))
]

-- what the widths have in common
pub record IsWidth (size : ℕ) : Type 0 where
  pub some : 0 < size
  pub half : 2 ^ (8 * size) ≡ 2 * 2 ^ (8 * size - 1)
  pub least : 128 ≤ 2 ^ (8 * size - 1)
  pub greatest : 2 ^ (8 * size - 1) ≤ 2 ^ 63

pub width : (size : ℕ) → IsTrue (is_width size) → IsWidth size
width size allowed =
    let cases : (size ≡ 1) ⊎ ((size ≡ 2) ⊎ ((size ≡ 4) ⊎ (size ≡ 8))) = grind (arith, nat_tests) in
    let some : 0 < size = grind arith in
    let small : size ≤ 8 = grind arith in
    record {
      some = some;
      half = halved size some;
      least = pow-le-pow_right {n = 2} (omega arith) {i = 7} {j = 8 * size - 1} (omega arith);
      greatest = pow-le-pow_right {n = 2} (omega arith) {i = 8 * size - 1} {j = 63} (omega arith);
    }
