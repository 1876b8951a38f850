-- The laws of numbers and their bytes.
use Rattle.std.proofs.Common.{◌≡◌, ◌≢◌, ℕ, ◌-◌, ◌*◌, ◌^◌, ◌<◌, ◌≤◌, ℤ, pos, ◌-ℤ◌, ◌≤ℤ◌, List, length, IsTrue, lit<, refl, ◌∙◌, arith}
use Rattle.std.proofs.Math.Nat.{mod-eq_of_lt, one-le-pow}
use Rattle.std.proofs.lemmas.Int.{ints}
use Rattle.std.proofs.lemmas.Bool.{eqb-true}
use Rattle.std.proofs.lemmas.Bool.Decides.{nat_tests}
use Rattle.byteorder.proofs.Bytes.{pow256}
use Rattle.evp_base.specs.declared.order.Order.{Order}
use Rattle.evp_base.specs.declared.kind.Kind.{Kind}
use Rattle.evp_base.specs.declared.kind.Kind.TheVariants.{Int, Unsigned, Char, Boolean, Enumeration}
use Rattle.evp_base.specs.Numbers.{number, digits, residue, magnitude, truth, low_first, low_digits, twos_complement, is_width, is_size_of}
use Rattle.evp_base.specs.Numbers.{InRange}
use Rattle.evp_base.proofs.Complement.{width, residue-lt, residue-pos, signed-residue, residue-signed, signed-range}
use Rattle.evp_base.proofs.Digits.{AreBytes, length-low_digits, AreBytes-low_digits, weighed-low_digits, low_digits-weighed}
use Rattle.evp_base.proofs.Digits.{length-low_first, AreBytes-low_first, low_first-low_first, magnitude-lt}

-- ---- the digits of a number

pub length-digits : (order : Order) (size : ℕ) (n : ℤ) → length (digits order size n) ≡ size
length-digits order size n =
    length-low_first order (low_digits size (residue n (2 ^ (8 * size)))) ∙ length-low_digits size (residue n (2 ^ (8 * size)))

pub AreBytes-digits : (order : Order) (size : ℕ) (n : ℤ) → AreBytes (digits order size n)
AreBytes-digits order size n =
    AreBytes-low_first order (low_digits size (residue n (2 ^ (8 * size)))) (AreBytes-low_digits size (residue n (2 ^ (8 * size))))

-- the unsigned number of the digits is the residue
pub magnitude-digits : (order : Order) (size : ℕ) (n : ℤ) → magnitude order (digits order size n) ≡ residue n (2 ^ (8 * size))
magnitude-digits order size n =
    let room : 0 < 2 ^ (8 * size) = one-le-pow (8 * size) 2 (omega arith) in
    let below : residue n (2 ^ (8 * size)) < 256 ^ size = rw pow256 (residue-lt n (2 ^ (8 * size)) room) in
    rw low_first-low_first (weighed-low_digits size (residue n (2 ^ (8 * size))) below)

-- ---- there and back

signed_read_back : (order : Order) (size : ℕ) (n : ℤ) → IsTrue (is_width size)
    → (pos 0 -ℤ pos (2 ^ (8 * size - 1))) ≤ℤ n → n ≤ℤ pos (2 ^ (8 * size - 1) - 1)
    → twos_complement (length (digits order size n)) (magnitude order (digits order size n)) ≡ n
signed_read_back order size n allowed low high =
    let wide = width size allowed in
    rw (length-digits order size n, magnitude-digits order size n)
    (signed-residue (2 ^ (8 * size - 1)) (2 ^ (8 * size)) n (omega (arith, wide.least)) wide.half low high)

unsigned_read_back : (order : Order) (size : ℕ) (n : ℤ) (top : ℕ) → top < 2 ^ (8 * size) → pos 0 ≤ℤ n → n ≤ℤ pos top
    → pos (magnitude order (digits order size n)) ≡ n
unsigned_read_back order size n top small low high =
    rw (magnitude-digits order size n) (residue-pos n (2 ^ (8 * size)) top small low high)

truth-small : (m : ℕ) (n : ℤ) → pos m ≡ n → n ≤ℤ pos 1 → truth m ≡ n
truth-small m n same high =
    let small : m ≤ 1 = omega (arith, ints) in
    grind (arith, nat_tests, same)

-- reading the digits of a number in range gives the number back
pub number-digits : (order : Order) (kind : Kind) (size : ℕ) (n : ℤ) → IsTrue (is_size_of kind size) → InRange kind size n
    → number order kind (digits order size n) ≡ n
number-digits order Int size n allowed inside = signed_read_back order size n allowed inside.0 inside.1
number-digits order Enumeration size n allowed inside = signed_read_back order size n allowed inside.0 inside.1
number-digits order Unsigned size n allowed inside =
    let wide = width size allowed in
    unsigned_read_back order size n (2 ^ (8 * size) - 1) (omega (arith, wide.half, wide.least)) inside.0 inside.1
number-digits order Char size n allowed inside =
    let one : size ≡ 1 = eqb-true size 1 allowed in
    unsigned_read_back order size n 255 (rw one (lit< tt)) inside.0 inside.1
number-digits order Boolean size n allowed inside =
    let wide = width size allowed in
    let back = unsigned_read_back order size n 1 (omega (arith, wide.half, wide.least)) inside.0 inside.1 in
    truth-small (magnitude order (digits order size n)) n back inside.1

-- ---- back and there

-- the digits of a number whose residue is the magnitude of some bytes
digits-residue : (order : Order) (bytes : List ℕ) (n : ℤ) → AreBytes bytes → residue n (2 ^ (8 * length bytes)) ≡ magnitude order bytes
    → digits order (length bytes) n ≡ bytes
digits-residue order bytes n are same =
    let turned = low_digits-weighed (low_first order bytes) (AreBytes-low_first order bytes are) in
    let low : low_digits (length bytes) (magnitude order bytes) ≡ low_first order bytes = rw length-low_first at turned in
    rw (same, low) (low_first-low_first order bytes)

magnitude_below : (order : Order) (bytes : List ℕ) → AreBytes bytes → magnitude order bytes < 2 ^ (8 * length bytes)
magnitude_below order bytes are = rw (← pow256 (length bytes)) (magnitude-lt order bytes are)

unsigned_digits_back : (order : Order) (bytes : List ℕ) → AreBytes bytes
    → digits order (length bytes) (pos (magnitude order bytes)) ≡ bytes
unsigned_digits_back order bytes are =
    digits-residue order bytes (pos (magnitude order bytes)) are (mod-eq_of_lt (magnitude_below order bytes are))

signed_digits_back : (order : Order) (bytes : List ℕ) → IsTrue (is_width (length bytes)) → AreBytes bytes
    → digits order (length bytes) (twos_complement (length bytes) (magnitude order bytes)) ≡ bytes
signed_digits_back order bytes allowed are =
    digits-residue order bytes (twos_complement (length bytes) (magnitude order bytes)) are
    (residue-signed (2 ^ (8 * length bytes)) (magnitude order bytes) (magnitude_below order bytes are))

-- the digits of the number of some bytes are those bytes, but for a boolean
pub digits-number : (order : Order) (kind : Kind) (bytes : List ℕ) → kind ≢ Boolean → IsTrue (is_size_of kind (length bytes))
    → AreBytes bytes
    → digits order (length bytes) (number order kind bytes) ≡ bytes
digits-number order Int bytes other allowed are = signed_digits_back order bytes allowed are
digits-number order Enumeration bytes other allowed are = signed_digits_back order bytes allowed are
digits-number order Unsigned bytes other allowed are = unsigned_digits_back order bytes are
digits-number order Char bytes other allowed are = unsigned_digits_back order bytes are
digits-number order Boolean bytes other allowed are = absurd (other refl)

-- ---- ranges

signed_in_range : (order : Order) (bytes : List ℕ) → IsTrue (is_width (length bytes)) → AreBytes bytes
    → InRange Int (length bytes) (number order Int bytes)
signed_in_range order bytes allowed are =
    let wide = width (length bytes) allowed in
    signed-range (2 ^ (8 * length bytes - 1)) (2 ^ (8 * length bytes)) (magnitude order bytes) (omega (arith, wide.least)) wide.half
    (magnitude_below order bytes are)

truth-range : (m : ℕ) → (pos 0 ≤ℤ truth m) × (truth m ≤ℤ pos 1)
truth-range m = grind (arith, ints, nat_tests)

-- the number of some bytes is in the range of its kind and size
pub InRange-number : (order : Order) (kind : Kind) (bytes : List ℕ) → IsTrue (is_size_of kind (length bytes)) → AreBytes bytes
    → InRange kind (length bytes) (number order kind bytes)
InRange-number order Int bytes allowed are = signed_in_range order bytes allowed are
InRange-number order Enumeration bytes allowed are = signed_in_range order bytes allowed are
InRange-number order Unsigned bytes allowed are =
    let below = magnitude_below order bytes are in (omega (arith, ints), omega (arith, ints))
InRange-number order Char bytes allowed are =
    let below = magnitude_below order bytes are in
    let one : length bytes ≡ 1 = eqb-true (length bytes) 1 allowed in
    let small : magnitude order bytes < 256 = rw one at below in (omega (arith, ints), omega (arith, ints))
InRange-number order Boolean bytes allowed are = truth-range (magnitude order bytes)
