-- Bytes of a record that are the signs of others.
use Rattle.std.specs.Prelude.{◌≡◌, ℕ, ◌+◌, ◌<◌, List, slice_index, Option, Some, None, IfSome}
use Rattle.std.specs.List.{All}
use Rattle.evp_base.specs.declared.order.Order.{Order}
use Rattle.evp_wide.specs.Gathered.{sign_byte}
use Rattle.evp_plan.specs.declared.fill.Fill.{Fill}
use Rattle.evp_plan.specs.declared.quick.Quick.{Quick}
use Rattle.evp_plan.specs.Quicks.{IsInside, IsThere}

-- the byte at an offset of the record at `at`, or 0 where there is none
abbrev pub byte_there : ℕ → List ℕ → Option ℕ → ℕ
byte_there at bytes None = 0
byte_there at bytes (Some offset) = slice_index bytes (at + offset)

-- the one byte is the sign of the other
abbrev pub IsFilled : ℕ → List ℕ → Fill → Type 0
IsFilled at bytes fill = byte_there at bytes fill.pick ≡ sign_byte (byte_there at bytes fill.sign)

-- so for each of these
abbrev pub AreFilled : ℕ → List ℕ → List Fill → Type 0
AreFilled at bytes fills = All (IsFilled at bytes) fills

-- these are bytes
abbrev pub AreBytes : List ℕ → Type 0
AreBytes bytes = All (λ byte. byte < 256) bytes

-- the words of each test stand inside the bytes
abbrev pub AreWordsInside : ℕ → List ℕ → List Quick → Type 0
AreWordsInside at bytes tests = All (λ (test : Quick). IfSome test.words (IsInside at bytes)) tests

-- the words of each test stand there
abbrev pub AreWordsThere : ℕ → Order → List ℕ → List Quick → Type 0
AreWordsThere at order bytes tests =
    All (λ (test : Quick). IfSome test.words (IsThere at order bytes)) tests

-- where all of these hold, the words of each test stand in the record
abbrev pub AreFillsOf : Order → List Quick → List Fill → Type 0
AreFillsOf order tests fills =
    (at : ℕ) (bytes : List ℕ) → AreBytes bytes → AreWordsInside at bytes tests
    → AreFilled at bytes fills → AreWordsThere at order bytes tests
