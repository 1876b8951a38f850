-- A text as lines show it: in double quotes, with bytes 0x20 to 0x7e as themselves but the quote
-- and the backslash behind a backslash, and every other byte as `\x` and two lower case
-- hexadecimal digits.
use Rattle.std.specs.Prelude.{ℕ, Bool, false, ◌/◌, ◌%◌, ◌&&◌, nat_le, nat_eq, ◌≤◌, if◌then◌else◌}
use Rattle.std.specs.Prelude.{List, [], ◌∷◌, ◌++◌, take, codes}
use Rattle.std.specs.List.{flat_map}
use Rattle.std.specs.Fmt.{digit_glyph}
use Rattle.std.specs.Str.{IsAscii}

-- a byte that stands for itself: the blank, or one that ASCII has a glyph for
abbrev pub is_printable : ℕ → Bool
is_printable byte = nat_le 32 byte && nat_le byte 126

-- a byte by its number: `\x` and two lower case hexadecimal digits
abbrev pub numbered : ℕ → List ℕ
numbered byte = codes "\\x" ++ digit_glyph false (byte / 16) ∷ digit_glyph false (byte % 16) ∷ []

-- a byte between the quotes
abbrev pub escaped : ℕ → List ℕ
escaped byte =
    if nat_eq byte 34 then codes "\\\"" else (if nat_eq byte 92 then codes "\\\\" else
    (if is_printable byte then byte ∷ [] else numbered byte))

-- a text in double quotes
abbrev pub quoted : List ℕ → List ℕ
quoted text = codes "\"" ++ flat_map escaped text ++ codes "\""

-- a byte's text in its array: as many of the array's bytes as are used, all ASCII
pub record IsKept (used : ℕ) (bytes : List ℕ) : Type 0 where
  pub fits : used ≤ 4
  pub ascii : IsAscii (take used bytes)
