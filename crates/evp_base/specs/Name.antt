-- Names: 1 to 64 bytes, a letter or `_`, then letters, digits or `_`, all ASCII.
use Rattle.std.specs.Prelude.{◌≡◌, ℕ, ◌-◌, Bool, false, ◌&&◌, ◌||◌, nat_le, nat_eq, List, [], ◌∷◌}
use Rattle.std.specs.Prelude.{◌++◌, length, take, replicate, IsTrue}
use Rattle.std.specs.List.{list_all}

abbrev pub is_letter : ℕ → Bool
is_letter byte = (nat_le 65 byte && nat_le byte 90) || (nat_le 97 byte && nat_le byte 122)

abbrev pub is_digit : ℕ → Bool
is_digit byte = nat_le 48 byte && nat_le byte 57

-- a byte that may begin a name: a letter or `_`
abbrev pub begins_name : ℕ → Bool
begins_name byte = is_letter byte || nat_eq byte 95

-- a byte that may stand behind the first of a name
abbrev pub continues_name : ℕ → Bool
continues_name byte = begins_name byte || is_digit byte

abbrev pub is_name : List ℕ → Bool
is_name [] = false
is_name (first ∷ others) = begins_name first &&
    (list_all continues_name others && nat_le (length others) 63)

-- a name in its array: its bytes, then zeros up to 64
abbrev pub padded : List ℕ → List ℕ
padded name = name ++ replicate (64 - length name) 0

-- the array holds a name of that length
pub record IsPadded (count : ℕ) (bytes : List ℕ) : Type 0 where
  pub name : IsTrue (is_name (take count bytes))
  pub counted : length (take count bytes) ≡ count
  pub padding : padded (take count bytes) ≡ bytes
