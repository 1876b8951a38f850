-- Numbers as words of 64 bits.
use Rattle.std.proofs.Common.{◌≡◌, ℕ, ◌+◌, ◌-◌, ◌*◌, ◌%◌, ◌^◌, ◌<◌, ◌≤◌, ◌⊎◌, inl, inr, ℤ, pos, negsuc, ◌-ℤ◌, IsTrue}
use Rattle.std.proofs.Common.{sym, ap, subst, ◌∙◌, pow_mono, bit_and, arith}
use Rattle.std.specs.Int.{bit_at}
use Rattle.std.specs.Int.Bits.{bit_xor}
use Rattle.std.proofs.Math.Nat.{mod-eq_of_lt}
use Rattle.std.proofs.lemmas.Bool.{lt-ltb, le-ltb, cases_lt}
use Rattle.std.proofs.lemmas.Nat.Bits.{and_pow, bit_at_above, bit_at_cat_high}
use lib.Bits.{xor_add_and}
use Rattle.std.proofs.lemmas.Bool.Decides.{nat_tests}
use Rattle.std.proofs.lemmas.Int.{ints}
use Rattle.evp_base.specs.declared.order.Order.{Order}
use Rattle.evp_base.specs.Numbers.{digits, residue, low_first, low_digits, twos_complement, is_width}

-- the digits of a word are those of its lowest bytes
pub digits-low : (order : Order) (size word : ℕ) → 0 < 2 ^ (8 * size)
    → digits order size (pos (word % 2 ^ (8 * size))) ≡ digits order size (pos word)
digits-low order size word some =
    let m = 2 ^ (8 * size) in
    let below : word % m < m = omega (arith, some) in
    ap (λ (k : ℕ). low_first order (low_digits size k)) (mod-eq_of_lt below)

-- a residue modulo 2^64 has the lower residues of the number
abbrev low-by : (size : ℕ) → ℤ → Type 0
low-by size n = residue n (2 ^ 64) % 2 ^ (8 * size) ≡ residue n (2 ^ (8 * size))

low1 : (n : ℤ) → low-by 1 n
low1 (pos n) = omega arith
low1 (negsuc n) = omega arith

low2 : (n : ℤ) → low-by 2 n
low2 (pos n) = omega arith
low2 (negsuc n) = omega arith

low4 : (n : ℤ) → low-by 4 n
low4 (pos n) = omega arith
low4 (negsuc n) = omega arith

low8 : (n : ℤ) → low-by 8 n
low8 (pos n) = omega arith
low8 (negsuc n) = omega arith

residue-low : (size : ℕ) (n : ℤ) → IsTrue (is_width size) → low-by size n
residue-low size n allowed =
    let cases : (size ≡ 1) ⊎ ((size ≡ 2) ⊎ ((size ≡ 4) ⊎ (size ≡ 8))) = grind (arith, nat_tests) in
    elim cases [
      | inl one ↦ subst (λ (k : ℕ). low-by k n) (sym one) (low1 n)
      | inr (inl two) ↦ subst (λ (k : ℕ). low-by k n) (sym two) (low2 n)
      | inr (inr (inl four)) ↦ subst (λ (k : ℕ). low-by k n) (sym four) (low4 n)
      | inr (inr (inr eight)) ↦ subst (λ (k : ℕ). low-by k n) (sym eight) (low8 n)
    ]

-- the digits of a number are those of its residue
pub digits-word : (order : Order) (size : ℕ) (n : ℤ) → IsTrue (is_width size)
    → digits order size (pos (residue n (2 ^ 64))) ≡ digits order size n
digits-word order size n allowed = ap (λ (k : ℕ). low_first order (low_digits size k)) (residue-low size n allowed)

-- ---- two's complement

sign-clear : (size word h : ℕ) → 2 * h ≡ 2 ^ (8 * size) → word < h → word < 2 ^ 64 → word ≡ residue (twos_complement size word) (2 ^ 64)
sign-clear size word h half low below =
    rw (lt-ltb (2 * word) (2 ^ (8 * size)) (omega (arith, half, low))) (sym (mod-eq_of_lt below))

sign-set : (size word h above : ℕ) → 2 * h ≡ 2 ^ (8 * size) → above + 2 ^ (8 * size) ≡ 2 ^ 64 → h ≤ word → word < 2 ^ (8 * size)
    → word + above ≡ residue (twos_complement size word) (2 ^ 64)
sign-set size word h above half whole high below =
    let m = 2 ^ (8 * size) in
    let k = m - 1 - word in
    let number : (pos word -ℤ pos m) ≡ negsuc k = omega (arith, ints, below) in
    let small : k < 2 ^ 64 = omega (arith, whole) in
    let same : k % 2 ^ 64 ≡ k = mod-eq_of_lt small in
    rw (le-ltb (2 * word) m (omega (arith, half, high)), number, same) (omega (arith, whole, below))

-- ---- the same by the top bit turned

top_clear : (h word k : ℕ) → h ≡ 2 ^ k → word < h → bit_xor word h ≡ word + h
top_clear h word k is low =
    let none = bit_at_above word k k (omega (arith, is, low)) (omega arith) in
    let both : bit_and word h ≡ bit_at word k * 2 ^ k = ap (bit_and word) is ∙ and_pow word k in
    omega (arith, xor_add_and word h, both, ap (λ (b : ℕ). b * 2 ^ k) none)

top_set : (h word k : ℕ) → h ≡ 2 ^ k → h ≤ word → word < 2 * h → bit_xor word h ≡ word - h
top_set h word k is high below =
    let split : word ≡ 1 * 2 ^ k + (word - 2 ^ k) = omega (arith, is, high) in
    let none : k - k ≡ 0 = omega arith in
    let one : bit_at word k ≡ 1 =
    ap (λ (n : ℕ). bit_at n k) split ∙ bit_at_cat_high 1 k (word - 2 ^ k) k (omega (arith, is, high, below)) (omega arith)
    ∙ ap (bit_at 1) none in
    let both : bit_and word h ≡ bit_at word k * 2 ^ k = ap (bit_and word) is ∙ and_pow word k in
    omega (arith, is, high, xor_add_and word h, both, ap (λ (b : ℕ). b * 2 ^ k) one)

pub sign_turned : (size word h : ℕ) → IsTrue (is_width size) → h ≡ 2 ^ (8 * size - 1) → 2 * h ≡ 2 ^ (8 * size) → word < 2 ^ (8 * size)
    → (bit_xor word h + (2 ^ 64 - h)) % 2 ^ 64 ≡ residue (twos_complement size word) (2 ^ 64)
sign_turned size word h allowed is half below =
    let small : size ≤ 8 = grind (arith, nat_tests) in
    let whole : 2 ^ (8 * size) ≤ 2 ^ 64 = pow_mono {i = 8 * size} {j = 64} (omega (arith, small)) in
    elim (cases_lt word h) [
      | inl low ↦
          let fits : word < 2 ^ 64 = omega (arith, whole, below) in
          let turned : (bit_xor word h + (2 ^ 64 - h)) % 2 ^ 64 ≡ word = omega (arith, top_clear h word (8 * size - 1) is low, whole, half, fits) in
          turned ∙ sign-clear size word h half low fits
      | inr high ↦
          let above = 2 ^ 64 - 2 * h in
          let turned : (bit_xor word h + (2 ^ 64 - h)) % 2 ^ 64 ≡ word + above =
          omega (arith, top_set h word (8 * size - 1) is high (omega (arith, half, below)), whole, half, below) in
          turned ∙ sign-set size word h above half (omega (arith, half, whole)) high below
    ]
