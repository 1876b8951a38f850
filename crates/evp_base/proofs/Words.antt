-- The words that `byteorder` reads and writes are magnitudes and digits.
use Rattle.std.proofs.Common.{◌≡◌, ℕ, zero, suc, ◌+◌, ◌*◌, ◌/◌, ◌%◌, ◌^◌, ◌<◌, List, [], ◌∷◌, ◌++◌, length, reverse, pos, refl, sym, ap}
use Rattle.std.proofs.Common.{◌∙◌, arith}
use Rattle.std.proofs.Math.Nat.{mod-eq_of_lt, div-one, div-div-eq-div-mul, pow-suc, pow-succ'}
use Rattle.std.proofs.lemmas.Grind.{reverse_onto}
use Rattle.std.proofs.lemmas.List.{length-reverse, reverse-append}
use Rattle.std.specs.Int.{byte_at, bytes_low_first, bytes_high_first}
use Rattle.byteorder.specs.Endian.{little_number, big_number, little_bytes, big_bytes}
use Rattle.byteorder.specs.Numbers.{little_from-cons, big_from-cons}
use Rattle.evp_base.specs.declared.order.Order.TheVariants.{Little, Big}
use Rattle.evp_base.specs.Numbers.{weighed, magnitude, low_digits, digits}

-- ---- reading

pub little_number-magnitude : (bytes : List ℕ) → little_number (length bytes) bytes ≡ magnitude Little bytes
little_number-magnitude [] = refl
little_number-magnitude (byte ∷ bytes) =
    let moved = little_from-cons 0 (length bytes) byte bytes in
    let rest = little_number-magnitude bytes in
    omega (arith, moved, rest)

-- a byte behind the others weighs the most
weighed-push : (bytes : List ℕ) (byte : ℕ) → weighed (bytes ++ byte ∷ []) ≡ weighed bytes + byte * 256 ^ length bytes
weighed-push [] byte = omega arith
weighed-push (first ∷ bytes) byte =
    let rest = weighed-push bytes byte in
    let power = pow-suc 256 (length bytes) in
    rw (rest, power) (omega arith)

pub big_number-magnitude : (bytes : List ℕ) → big_number (length bytes) bytes ≡ magnitude Big bytes
big_number-magnitude [] = refl
big_number-magnitude (byte ∷ bytes) =
    let moved = big_from-cons 0 (length bytes) byte bytes in
    let rest = big_number-magnitude bytes in
    let turned : reverse (byte ∷ bytes) ≡ reverse bytes ++ byte ∷ [] = reverse_onto bytes byte [] in
    let top = weighed-push (reverse bytes) byte in
    let weight : 256 ^ length (reverse bytes) ≡ 256 ^ length bytes = ap (λ (n : ℕ). 256 ^ n) (length-reverse bytes) in
    rw (turned, top, weight, moved, rest) (omega arith)

-- ---- writing

-- a byte of a number, by its place
byte_at-power : (place n : ℕ) → byte_at place n ≡ n / 256 ^ place % 256
byte_at-power zero n = ap (λ (m : ℕ). m % 256) (sym (div-one n))
byte_at-power (suc place) n = refl

-- without its lowest byte a number has each byte one place lower
shifted : (place n : ℕ) → n / 256 ^ place / 256 ≡ n / 256 ^ suc place
shifted place n =
    div-div-eq-div-mul n (256 ^ place) 256 ∙ ap (λ (power : ℕ). n / power) (sym (pow-suc 256 place))

byte_at-front : (place n : ℕ) → byte_at place (n / 256) ≡ byte_at (suc place) n
byte_at-front place n =
    byte_at-power place (n / 256)
    ∙ ap (λ (m : ℕ). m % 256)
    (div-div-eq-div-mul n 256 (256 ^ place) ∙ ap (λ (power : ℕ). n / power) (sym (pow-succ' 256 place)))

-- the digits from a place on
low_digits-from : (size place n : ℕ) → bytes_low_first place size n ≡ low_digits size (n / 256 ^ place)
low_digits-from zero place n = refl
low_digits-from (suc size) place n =
    rw (byte_at-power place n, low_digits-from size (suc place) n, shifted place n) refl

-- one digit more is the byte at that place
low_digits-push : (size n : ℕ) → low_digits (suc size) n ≡ low_digits size n ++ byte_at size n ∷ []
low_digits-push zero n = refl
low_digits-push (suc size) n =
    ap (λ (digits : List ℕ). n % 256 ∷ digits) (low_digits-push size (n / 256) ∙ rw (byte_at-front size n) refl)

low_digits-reverse : (size n : ℕ) → bytes_high_first size n ≡ reverse (low_digits size n)
low_digits-reverse zero n = refl
low_digits-reverse (suc size) n =
    ap (λ (bytes : List ℕ). byte_at size n ∷ bytes) (low_digits-reverse size n)
    ∙ sym (ap reverse (low_digits-push size n) ∙ reverse-append (low_digits size n) (byte_at size n ∷ []))

pub little_bytes-digits : (size n : ℕ) → n < 2 ^ (8 * size) → little_bytes size n ≡ digits Little size (pos n)
little_bytes-digits size n below =
    low_digits-from size 0 n ∙ ap (low_digits size) (div-one n ∙ sym (mod-eq_of_lt below))

pub big_bytes-digits : (size n : ℕ) → n < 2 ^ (8 * size) → big_bytes size n ≡ digits Big size (pos n)
big_bytes-digits size n below =
    low_digits-reverse size n ∙ ap (λ (m : ℕ). reverse (low_digits size m)) (sym (mod-eq_of_lt below))
