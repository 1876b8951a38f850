-- Numbers as the bytes of a record: a sum of weights, and two's complement (C99, section 6.2.6.2).
-- Each is stated once, from the lowest byte up; the two orders differ by a reversal.
use Rattle.std.specs.Prelude.{ℕ, zero, suc, ◌+◌, ◌*◌, ◌-◌, ◌/◌, ◌%◌, ◌^◌, ◌≤ℤ◌, ◌-ℤ◌, ℤ, pos}
use Rattle.std.specs.Prelude.{negsuc, Bool, not, ◌&&◌, nat_lt, int_lt, nat_eq, if◌then◌else◌, ◌||◌}
use Rattle.std.specs.Prelude.{List, [], ◌∷◌, length, reverse}
use Rattle.evp_base.specs.declared.order.Order.{Order}
use Rattle.evp_base.specs.declared.order.Order.TheVariants.{Little, Big}
use Rattle.evp_base.specs.declared.kind.Kind.{Kind}
use Rattle.evp_base.specs.declared.kind.Kind.TheVariants.{Int, Unsigned, Char, Boolean, Enumeration}

-- the bytes from the lowest up
abbrev pub low_first : Order → List ℕ → List ℕ
low_first Little bytes = bytes
low_first Big bytes = reverse bytes

-- the sum of the bytes by their weights, the lowest byte first
abbrev pub weighed : List ℕ → ℕ
weighed [] = 0
weighed (byte ∷ bytes) = byte + 256 * weighed bytes

-- the unsigned number of the bytes
abbrev pub magnitude : Order → List ℕ → ℕ
magnitude order bytes = weighed (low_first order bytes)

-- a number of `size` bytes whose top bit is a sign: less 2^(8 size) where that bit is set
abbrev pub twos_complement : ℕ → ℕ → ℤ
twos_complement size n = if nat_lt (2 * n) (2 ^ (8 * size)) then pos n
    else pos n -ℤ pos (2 ^ (8 * size))

-- 0 where the sum of the bytes is 0, so where all of them are, else 1
abbrev pub truth : ℕ → ℤ
truth n = if nat_eq n 0 then pos 0 else pos 1

-- the number that these bytes are, for a kind
abbrev pub number : Order → Kind → List ℕ → ℤ
number order Int bytes = twos_complement (length bytes) (magnitude order bytes)
number order Unsigned bytes = pos (magnitude order bytes)
number order Char bytes = pos (magnitude order bytes)
number order Boolean bytes = truth (magnitude order bytes)
number order Enumeration bytes = twos_complement (length bytes) (magnitude order bytes)

-- n modulo m, for m above 0, between 0 and m
abbrev pub residue : ℤ → ℕ → ℕ
residue (pos n) m = n % m
residue (negsuc n) m = m - 1 - n % m

-- the lowest `size` digits of n to the base 256, the lowest first
abbrev pub low_digits : ℕ → ℕ → List ℕ
low_digits zero n = []
low_digits (suc size) n = n % 256 ∷ low_digits size (n / 256)

-- the bytes of n modulo 2^(8 size)
abbrev pub digits : Order → ℕ → ℤ → List ℕ
digits order size n = low_first order (low_digits size (residue n (2 ^ (8 * size))))

-- the least number of a kind and size
abbrev pub least : Kind → ℕ → ℤ
least Int size = pos 0 -ℤ pos (2 ^ (8 * size - 1))
least Unsigned size = pos 0
least Char size = pos 0
least Boolean size = pos 0
least Enumeration size = pos 0 -ℤ pos (2 ^ (8 * size - 1))

-- the greatest number of a kind and size
abbrev pub greatest : Kind → ℕ → ℤ
greatest Int size = pos (2 ^ (8 * size - 1) - 1)
greatest Unsigned size = pos (2 ^ (8 * size) - 1)
greatest Char size = pos 255
greatest Boolean size = pos 1
greatest Enumeration size = pos (2 ^ (8 * size - 1) - 1)

-- n is a number of that kind and size
abbrev pub InRange : Kind → ℕ → ℤ → Type 0
InRange kind size n = (least kind size ≤ℤ n) × (n ≤ℤ greatest kind size)

-- a width of a number: 1, 2, 4 or 8 bytes
abbrev pub is_width : ℕ → Bool
is_width size = nat_eq size 1 || (nat_eq size 2 || (nat_eq size 4 || nat_eq size 8))

-- the sizes that a kind may have: a char has one byte
abbrev pub is_size_of : Kind → ℕ → Bool
is_size_of Int size = is_width size
is_size_of Unsigned size = is_width size
is_size_of Char size = nat_eq size 1
is_size_of Boolean size = is_width size
is_size_of Enumeration size = is_width size

-- the same as a test
abbrev pub is_in_range : Kind → ℕ → ℤ → Bool
is_in_range kind size n = not (int_lt n (least kind size)) && not (int_lt (greatest kind size) n)

-- n is a signed or an unsigned number of that size
abbrev pub FitsBytes : ℕ → ℤ → Type 0
FitsBytes size n = (least Int size ≤ℤ n) × (n ≤ℤ greatest Unsigned size)

-- a length of a word of several bytes: 2, 4 or 8
abbrev pub is_word_length : ℕ → Bool
is_word_length size = nat_eq size 2 || (nat_eq size 4 || nat_eq size 8)
