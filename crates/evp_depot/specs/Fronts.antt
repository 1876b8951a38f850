-- Bytes that agree with the front of a file.
use Rattle.std.specs.Prelude.{◌≡◌, ℕ, ◌≤◌, List, length, take}

-- the first n bytes of a buffer are the first n of the file
abbrev pub IsFront : ℕ → List ℕ → List ℕ → Type 0
IsFront n buffer file = (n ≤ length file) × (take n buffer ≡ take n file)
