-- The laws of numbers and their bytes, as statements.
use Rattle.std.specs.Prelude.{◌≡◌, ◌≢◌, ◌<◌, ◌*◌, ◌^◌, ℕ, ℤ, pos, List, length, All, IsTrue}
use Rattle.byteorder.specs.Endian.{little_number, big_number, little_bytes, big_bytes}
use Rattle.evp_base.specs.declared.order.Order.{Order}
use Rattle.evp_base.specs.declared.order.Order.TheVariants.{Little, Big}
use Rattle.evp_base.specs.declared.kind.Kind.{Kind}
use Rattle.evp_base.specs.declared.kind.Kind.TheVariants.{Boolean}
use Rattle.evp_base.specs.Numbers.{number, magnitude, digits, low_first, is_size_of, InRange}

-- reading the bytes of a number in range gives the number back
abbrev pub DigitsReadBack : Type 0
DigitsReadBack =
    (order : Order) (kind : Kind) (size : ℕ) (n : ℤ) → IsTrue (is_size_of kind size)
    → InRange kind size n
    → number order kind (digits order size n) ≡ n

-- writing the number of some bytes gives the bytes back, but for a boolean, whose bytes are many
abbrev pub NumberDigitsBack : Type 0
NumberDigitsBack =
    (order : Order) (kind : Kind) (bytes : List ℕ) → kind ≢ Boolean
    → IsTrue (is_size_of kind (length bytes))
    → All (λ byte. byte < 256) bytes
    → digits order (length bytes) (number order kind bytes) ≡ bytes

-- bytes of any value are a number in range
abbrev pub NumbersAreInRange : Type 0
NumbersAreInRange =
    (order : Order) (kind : Kind) (bytes : List ℕ) → IsTrue (is_size_of kind (length bytes))
    → All (λ byte. byte < 256) bytes
    → InRange kind (length bytes) (number order kind bytes)

-- there are `size` digits, each a byte
abbrev pub DigitsAreBytes : Type 0
DigitsAreBytes =
    (order : Order) (size : ℕ) (n : ℤ) → (length (digits order size n) ≡ size)
    × All (λ byte. byte < 256) (digits order size n)

-- to turn bytes to the lowest first and back changes nothing
abbrev pub LowFirstTwice : Type 0
LowFirstTwice = (order : Order) (bytes : List ℕ) → low_first order (low_first order bytes) ≡ bytes

-- the word that `byteorder` reads from some bytes is their unsigned number
abbrev pub WordsAreMagnitudes : Type 0
WordsAreMagnitudes =
    (bytes : List ℕ)
    → (little_number (length bytes) bytes ≡ magnitude Little bytes)
    × (big_number (length bytes) bytes ≡ magnitude Big bytes)

-- the bytes that `byteorder` writes of a word are its digits
abbrev pub WordsAreDigits : Type 0
WordsAreDigits =
    (size n : ℕ) → n < 2 ^ (8 * size)
    → (little_bytes size n ≡ digits Little size (pos n))
    × (big_bytes size n ≡ digits Big size (pos n))
