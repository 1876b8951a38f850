-- The zero bytes of two windows as the bits of one word.
use Rattle.std.proofs.Common.{◌≡◌, ℕ, ◌+◌, ◌-◌, ◌*◌, ◌^◌, ◌%◌, ◌<◌, ◌≤◌, Bool, true, false, cond, List, length, take, drop, map}
use Rattle.std.proofs.Common.{get_or, w64, bit_or, pow_mono, inl, inr, refl, sym, ap, subst, ◌∙◌, arith}
use Rattle.std.specs.Int.{bit_at}
use Rattle.std.specs.Int.Count.{count_trailing_zeros}
use Rattle.std.proofs.Math.Nat.{mod-eq_of_lt}
use Rattle.std.proofs.Math.Pow.{shl_lt}
use Rattle.std.proofs.lemmas.Bool.{cases_lt}
use Rattle.std.proofs.lemmas.List.{get_or-map, length-map}
use Rattle.std.proofs.lemmas.Nat.{or_lt, pow_pos}
use Rattle.std.proofs.lemmas.Nat.Bits.{bit_at_or, bit_at-zero, bit_at_above, bit_at_cat_low, bit_at_cat_high, bit_at-trailing_zeros}
use Rattle.std.proofs.lemmas.Simd.{bit_mask_l, mask_l-lt, length-chunk, get_or-chunk}
use lib.Lanes.{mask_l}
use Rattle.memchr.specs.Find.{is_byte}
use Rattle.evp_wide.specs.Zeros.{IsZeroBehind}

-- a bit for each of sixteen bytes
abbrev pub zero_bits : List ℕ → ℕ → ℕ
zero_bits bytes at = mask_l (map (is_byte 0) (take 16 (drop at bytes)))

bits-lt : (bytes : List ℕ) (at : ℕ) → at + 16 ≤ length bytes → zero_bits bytes at < 2 ^ 16
bits-lt bytes at room =
    let window = take 16 (drop at bytes) in
    let long : length (map (is_byte 0) window) ≡ 16 = length-map window (is_byte 0) ∙ length-chunk at 16 bytes room in
    let less = mask_l-lt (map (is_byte 0) window) in
    let power = ap (λ (n : ℕ). 2 ^ n) long in
    omega (arith, less, power)

bit_is : (bytes : List ℕ) (at k : ℕ) → at + 16 ≤ length bytes → k < 16
    → bit_at (zero_bits bytes at) k ≡ cond (is_byte 0 (get_or bytes (at + k) 0)) 1 0
bit_is bytes at k room low =
    let window = take 16 (drop at bytes) in
    let long = length-chunk at 16 bytes room in
    bit_mask_l (map (is_byte 0) window) k
    ∙ ap (λ (b : Bool). cond b 1 0) (get_or-map (is_byte 0) window k 0 false (omega (arith, low, long)))
    ∙ ap (λ (x : ℕ). cond (is_byte 0 x) 1 0) (get_or-chunk at 16 bytes k 0 low)

-- ---- the second word's bits, so many places up

shifted-lt : (m behind : ℕ) → m < 2 ^ 16 → behind ≤ 16 → m * 2 ^ behind < 2 ^ 64
shifted-lt m behind few near =
    let less = shl_lt 16 behind few in
    let power = pow_mono {i = 16 + behind} {j = 64} (omega (arith, near)) in
    omega (arith, less, power)

shifted_is : (m behind : ℕ) → m < 2 ^ 16 → behind ≤ 16 → m * 2 ^ behind % 2 ^ 64 ≡ m * 2 ^ behind + 0
shifted_is m behind few near = mod-eq_of_lt (shifted-lt m behind few near) ∙ omega arith

bit_below : (m behind k : ℕ) → m < 2 ^ 16 → behind ≤ 16 → k < behind → bit_at (m * 2 ^ behind % 2 ^ 64) k ≡ 0
bit_below m behind k few near low =
    ap (λ (n : ℕ). bit_at n k) (shifted_is m behind few near) ∙ bit_at_cat_low m behind 0 k low ∙ bit_at-zero k

bit_behind : (m behind k : ℕ) → m < 2 ^ 16 → behind ≤ 16 → behind ≤ k → bit_at (m * 2 ^ behind % 2 ^ 64) k ≡ bit_at m (k - behind)
bit_behind m behind k few near high =
    ap (λ (n : ℕ). bit_at n k) (shifted_is m behind few near) ∙ bit_at_cat_high m behind 0 k (pow_pos behind) high

-- ---- both

-- the bits of the window at a place
abbrev IsOf : List ℕ → ℕ → ℕ → Type 0
IsOf bytes at m = m ≡ zero_bits bytes at

abbrev pub both_bits : ℕ → ℕ → ℕ → ℕ
both_bits m n behind = bit_or m (n * 2 ^ behind % 2 ^ 64)

is_set : (b : Bool) → ◌≡◌ {A = ℕ} (cond b 1 0) 1 → b ≡ true
is_set true h = refl
is_set false h = absurd (omega (arith, h))

is_clear : (b : Bool) → ◌≡◌ {A = ℕ} (cond b 1 0) 0 → b ≡ true → ⊥
is_clear true h here = omega (arith, h)
is_clear false h here = cc

module _ (bytes : List ℕ) (from behind m n : ℕ) (near : behind ≤ 16) (inside : from + behind + 16 ≤ length bytes)
    (first : IsOf bytes from m) (second : IsOf bytes (from + behind) n) where
  abbrev two : ℕ
  two = n * 2 ^ behind % 2 ^ 64

  first_room : from + 16 ≤ length bytes
  first_room = omega (arith, inside)

  first-lt : m < 2 ^ 16
  first-lt = omega (arith, first, bits-lt bytes from first_room)

  second-lt : n < 2 ^ 16
  second-lt = omega (arith, second, bits-lt bytes (from + behind) inside)

  -- the bit of a byte
  abbrev shown : ℕ → ℕ
  shown k = cond (is_byte 0 (get_or bytes (from + k) 0)) 1 0

  first_bit : (k : ℕ) → k < 16 → bit_at m k ≡ shown k
  first_bit k low = ap (λ (x : ℕ). bit_at x k) first ∙ bit_is bytes from k first_room low

  first_above : (k : ℕ) → 16 ≤ k → bit_at m k ≡ 0
  first_above k high = bit_at_above m 16 k first-lt high

  second_bit : (k : ℕ) → behind ≤ k → k < behind + 16 → bit_at two k ≡ shown k
  second_bit k high low =
      let place : from + behind + (k - behind) ≡ from + k = omega (arith, high) in
      bit_behind n behind k second-lt near high
      ∙ ap (λ (x : ℕ). bit_at x (k - behind)) second
      ∙ bit_is bytes (from + behind) (k - behind) inside (omega (arith, low, high))
      ∙ ap (λ (x : ℕ). cond (is_byte 0 (get_or bytes x 0)) 1 0) place

  second_below : (k : ℕ) → k < behind → bit_at two k ≡ 0
  second_below k low = bit_below n behind k second-lt near low

  second_above : (k : ℕ) → behind + 16 ≤ k → bit_at two k ≡ 0
  second_above k high =
      bit_behind n behind k second-lt near (omega (arith, high)) ∙ bit_at_above n 16 (k - behind) second-lt (omega (arith, high))

  -- each bit of both is that of the byte so many places on
  both_bit : (k : ℕ) → k < behind + 16 → bit_at (both_bits m n behind) k ≡ shown k
  both_bit k low =
      elim (cases_lt k 16) [
        | inl early ↦
            elim (cases_lt k behind) [
              | inl below ↦ omega (arith, bit_at_or m two k, first_bit k early, second_below k below)
              | inr past ↦ omega (arith, bit_at_or m two k, first_bit k early, second_bit k past low)
            ]
        | inr past ↦ omega (arith, bit_at_or m two k, first_above k past, second_bit k (omega (arith, near, past)) low)
      ]

  none_above : (k : ℕ) → behind + 16 ≤ k → bit_at (both_bits m n behind) k ≡ 0
  none_above k high = omega (arith, bit_at_or m two k, first_above k (omega (arith, high)), second_above k high)

  module _ (some : both_bits m n behind ≡ 0 → ⊥) where
    abbrev count : ℕ
    count = count_trailing_zeros 64 (both_bits m n behind)

    lowest : (count < 64) × (bit_at (both_bits m n behind) count ≡ 1) × ((i : ℕ) → i < count → bit_at (both_bits m n behind) i ≡ 0)
    lowest =
        let few = first-lt in
        let first' : m < 2 ^ 64 = omega (arith, few) in
        let second' : two < 2 ^ 64 = omega arith in
        bit_at-trailing_zeros w64 (both_bits m n behind) (omega (arith, some)) (or_lt 64 m two first' second')

    pub zero-within : count < behind + 16
    zero-within =
        elim (cases_lt count (behind + 16)) [
          | inl below ↦ below
          | inr past ↦ absurd (omega (arith, lowest.1, none_above count past))
        ]

    before : (k : ℕ) → from ≤ k → k < from + count → is_byte 0 (get_or bytes k 0) ≡ true → ⊥
    before k at below here =
        let place : from + (k - from) ≡ k = omega (arith, at) in
        let none : shown (k - from) ≡ 0 =
        sym (both_bit (k - from) (omega (arith, at, below, zero-within))) ∙ lowest.2 (k - from) (omega (arith, at, below)) in
        is_clear (is_byte 0 (get_or bytes k 0)) (subst (λ (x : ℕ). ◌≡◌ {A = ℕ} (cond (is_byte 0 (get_or bytes x 0)) 1 0) 0) place none) here

    here : is_byte 0 (get_or bytes (from + count) 0) ≡ true
    here = is_set (is_byte 0 (get_or bytes (from + count) 0)) (sym (both_bit count zero-within) ∙ lowest.1)

    pub zero_behind_is : IsZeroBehind bytes from count
    zero_behind_is = record {
      within = omega (arith, zero-within, inside);
      before = before;
      here = here;
    }
