-- Bytes as digits to the base 256, the lowest first.
use Rattle.std.proofs.Common.{◌≡◌, ℕ, zero, suc, ◌+◌, ◌-◌, ◌*◌, ◌/◌, ◌%◌, ◌^◌, ◌<◌, List, [], ◌∷◌, length, reverse, refl, arith}
use Rattle.std.proofs.Math.Nat.{pow-suc}
use Rattle.std.proofs.lemmas.List.{length-reverse, get_or-reverse, reverse-reverse}
use Rattle.std.proofs.lemmas.List.Elements.{All-nil, All-cons}
use Rattle.std.specs.List.{All}
use Rattle.evp_base.specs.declared.order.Order.{Order}
use Rattle.evp_base.specs.declared.order.Order.TheVariants.{Little, Big}
use Rattle.evp_base.specs.Numbers.{weighed, low_digits, low_first, magnitude}

-- each is a byte
abbrev pub AreBytes : List ℕ → Type 0
AreBytes bytes = All (λ byte. byte < 256) bytes

AreBytes-tail : (byte : ℕ) (bytes : List ℕ) → AreBytes (byte ∷ bytes) → AreBytes bytes
AreBytes-tail byte bytes are = λ k d below. are (suc k) d (omega arith)

pub AreBytes-reverse : (bytes : List ℕ) → AreBytes bytes → AreBytes (reverse bytes)
AreBytes-reverse bytes are =
    λ k d below.
    let inside : k < length bytes = omega (arith, length-reverse bytes) in
    rw (get_or-reverse bytes k d inside) (are (length bytes - 1 - k) d (omega arith))

-- ---- digits

pub length-low_digits : (size n : ℕ) → length (low_digits size n) ≡ size
length-low_digits zero n = refl
length-low_digits (suc size) n = let rest = length-low_digits size (n / 256) in omega (arith, rest)

pub AreBytes-low_digits : (size n : ℕ) → AreBytes (low_digits size n)
AreBytes-low_digits zero n = All-nil (λ byte. byte < 256)
AreBytes-low_digits (suc size) n =
    All-cons (λ byte. byte < 256) (n % 256) (low_digits size (n / 256)) (omega arith) (AreBytes-low_digits size (n / 256))

pub weighed-low_digits : (size n : ℕ) → n < 256 ^ size → weighed (low_digits size n) ≡ n
weighed-low_digits zero n below = omega arith
weighed-low_digits (suc size) n below =
    let whole = pow-suc 256 size in
    let front : n / 256 < 256 ^ size = omega (arith, whole) in
    let rest = weighed-low_digits size (n / 256) front in
    omega (arith, rest)

pub weighed-lt : (bytes : List ℕ) → AreBytes bytes → weighed bytes < 256 ^ length bytes
weighed-lt [] are = omega arith
weighed-lt (byte ∷ bytes) are =
    let first : byte < 256 = are 0 0 (omega arith) in
    let rest = weighed-lt bytes (AreBytes-tail byte bytes are) in
    let whole = pow-suc 256 (length bytes) in
    omega (arith, first, rest, whole)

pub low_digits-weighed : (bytes : List ℕ) → AreBytes bytes → low_digits (length bytes) (weighed bytes) ≡ bytes
low_digits-weighed [] are = refl
low_digits-weighed (byte ∷ bytes) are =
    let first : byte < 256 = are 0 0 (omega arith) in
    let digit : (byte + 256 * weighed bytes) % 256 ≡ byte = omega arith in
    let front : (byte + 256 * weighed bytes) / 256 ≡ weighed bytes = omega arith in
    rw (digit, front, low_digits-weighed bytes (AreBytes-tail byte bytes are)) refl

-- ---- the two orders

pub low_first-low_first : (order : Order) (bytes : List ℕ) → low_first order (low_first order bytes) ≡ bytes
low_first-low_first Little bytes = refl
low_first-low_first Big bytes = reverse-reverse bytes

pub length-low_first : (order : Order) (bytes : List ℕ) → length (low_first order bytes) ≡ length bytes
length-low_first Little bytes = refl
length-low_first Big bytes = length-reverse bytes

pub AreBytes-low_first : (order : Order) (bytes : List ℕ) → AreBytes bytes → AreBytes (low_first order bytes)
AreBytes-low_first Little bytes are = are
AreBytes-low_first Big bytes are = AreBytes-reverse bytes are

pub magnitude-lt : (order : Order) (bytes : List ℕ) → AreBytes bytes → magnitude order bytes < 256 ^ length bytes
magnitude-lt order bytes are =
    let turned = weighed-lt (low_first order bytes) (AreBytes-low_first order bytes are) in
    rw length-low_first at turned
