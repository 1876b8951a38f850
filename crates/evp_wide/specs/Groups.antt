-- The elements of an array: bytes in groups of one size.
use Rattle.std.specs.Prelude.{ℕ, zero, suc, ◌/◌, List, [], ◌∷◌, length, take, drop}

-- so many groups of this size, one after another
abbrev pub groups : ℕ → ℕ → List ℕ → List (List ℕ)
groups size zero bytes = []
groups size (suc count) bytes = take size bytes ∷ groups size count (drop size bytes)

-- all groups of this size
abbrev pub elements : ℕ → List ℕ → List (List ℕ)
elements size bytes = groups size (length bytes / size) bytes
