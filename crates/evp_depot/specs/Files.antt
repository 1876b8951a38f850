-- What a depot holds: bytes under names, where it tells that.
use Rattle.std.specs.Prelude.{ℕ, List, map, Option, IfSome, String, string_bytes, Vec}
use Rattle.std.specs.Ordering.{nat_cmp}
use Rattle.std.specs.Cmp.Lexicographic.{slice_cmp}
use Rattle.std.specs.BTreeMap.{BTreeMap}
use Rattle.std.specs.FinMap.{FinMap, from_entries, get}

-- from the bytes of a name to those under it
abbrev pub Files : Type 0
Files = FinMap (slice_cmp nat_cmp) (List ℕ)

-- a map's names and bytes
abbrev pub files_of : {Y Z : Type 0} → BTreeMap (String Y) (Vec ℕ Z) → Files
files_of kept = from_entries (map (λ e. (string_bytes e.0, e.1.items)) kept.entries)

-- P is true of the bytes under the name, where the depot tells and has them
abbrev pub OnHeld : Option Files → List ℕ → (List ℕ → Type 0) → Type 0
OnHeld told name P = IfSome told (λ files. IfSome (get files name) P)
