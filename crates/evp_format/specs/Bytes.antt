-- Lists of bytes: what stands at a place, and what is put there.
use Rattle.std.specs.Prelude.{ℕ, ◌+◌, ◌*◌, ◌/◌, Bool, true, false, ◌&&◌, nat_eq, List, [], ◌∷◌}
use Rattle.std.specs.Prelude.{◌++◌, length, take, drop}

-- names and texts are compared as lists of bytes
abbrev pub bytes_equal : List ℕ → List ℕ → Bool
bytes_equal [] [] = true
bytes_equal [] (y ∷ ys) = false
bytes_equal (x ∷ xs) [] = false
bytes_equal (x ∷ xs) (y ∷ ys) = nat_eq x y && bytes_equal xs ys

-- the `size` bytes from `at` on
abbrev pub bytes_at : ℕ → ℕ → List ℕ → List ℕ
bytes_at at size bytes = take size (drop at bytes)

-- the bytes, with these in place of those from `at` on
abbrev pub put_at : ℕ → List ℕ → List ℕ → List ℕ
put_at at new bytes = take at bytes ++ new ++ drop (at + length new) bytes

-- the next multiple of 8 from n on
abbrev pub next_block : ℕ → ℕ
next_block n = (n + 7) / 8 * 8
