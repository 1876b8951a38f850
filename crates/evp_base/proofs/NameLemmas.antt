-- That a name is text, and fits its array.
use Rattle.std.proofs.Common.{◌≡◌, ℕ, ◌<◌, ◌≤◌, true, ◌&&◌, nat_le, List, [], ◌∷◌, length, replicate, IsTrue, refl, arith}
use Rattle.std.proofs.lemmas.Bool.{and_parts, leb-true}
use Rattle.std.proofs.lemmas.Bool.Decides.{nat_tests}
use Rattle.std.proofs.lemmas.List.{drop-replicate}
use Rattle.std.proofs.lemmas.Str.{IsUtf8-from_ascii}
use borrow.Rule.Slice.PartMut.{put_mid}
use Rattle.std.proofs.lemmas.Str.Ascii.{IsAscii-nil, IsAscii-cons}
use Rattle.std.specs.List.{list_all}
use Rattle.std.specs.Str.{IsAscii, IsUtf8}
use Rattle.evp_base.specs.Name.{is_name, begins_name, continues_name, padded}

begins_name-lt : (byte : ℕ) → begins_name byte ≡ true → byte < 128
begins_name-lt byte may = grind (arith, nat_tests)

continues_name-lt : (byte : ℕ) → continues_name byte ≡ true → byte < 128
continues_name-lt byte may = grind (arith, nat_tests)

IsAscii-continues : (bytes : List ℕ) → list_all continues_name bytes ≡ true → IsAscii bytes
IsAscii-continues [] all = IsAscii-nil
IsAscii-continues (byte ∷ bytes) all =
    let parts = and_parts (continues_name byte) (list_all continues_name bytes) all in
    IsAscii-cons byte bytes (continues_name-lt byte parts.0) (IsAscii-continues bytes parts.1)

-- what holds of the parts of a name
name_parts : (first : ℕ) (others : List ℕ) → IsTrue (is_name (first ∷ others))
    → (begins_name first ≡ true) × (list_all continues_name others ≡ true) × (length others ≤ 63)
name_parts first others holds =
    let short = nat_le (length others) 63 in
    let parts = and_parts (begins_name first) (list_all continues_name others && short) holds in
    let rest = and_parts (list_all continues_name others) short parts.1 in
    (parts.0, rest.0, leb-true (length others) 63 rest.1)

-- a name is ASCII
pub IsAscii-name : (name : List ℕ) → IsTrue (is_name name) → IsAscii name
IsAscii-name [] holds = absurd cc
IsAscii-name (first ∷ others) holds =
    let parts = name_parts first others holds in
    IsAscii-cons first others (begins_name-lt first parts.0) (IsAscii-continues others parts.1)

-- a name is text
pub IsUtf8-name : (name : List ℕ) → IsTrue (is_name name) → IsUtf8 name
IsUtf8-name name holds = IsUtf8-from_ascii name (IsAscii-name name holds)

-- a name has at least one byte, and at most 64
pub length-name : (name : List ℕ) → IsTrue (is_name name) → (0 < length name) × (length name ≤ 64)
length-name [] holds = absurd cc
length-name (first ∷ others) holds =
    let parts = name_parts first others holds in (omega arith, omega (arith, parts.2))

-- a text that is copied over the start of 64 zeros
pub put_mid-zeros : (text copied : List ℕ) → copied ≡ text → length text ≤ 64
    → put_mid 0 (length text) (replicate 64 0) copied ≡ padded text
put_mid-zeros text copied same fits = rw (same, drop-replicate {X = ℕ} (length text) 64 0) refl
