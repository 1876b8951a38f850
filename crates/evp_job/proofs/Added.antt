-- A sum that a loop adds up: what was added so far, and the same of what is left, is the whole.
use Rattle.std.proofs.Common.{◌≡◌, ℕ, ◌+◌, ◌<◌, ◌≤◌, List, [], ◌∷◌, length, get_or, drop, arith}
use Rattle.std.proofs.lemmas.List.{at_drop_all}
use Rattle.evp_format.proofs.Loops.{next_left}

pub added_more : {X : Type 0} (whole : List X → ℕ) (one : X → ℕ) (adds : (x : X) (xs : List X) → whole (x ∷ xs) ≡ one x + whole xs)
    (xs : List X) (k : ℕ) (x : X) (so_far total : ℕ) → k < length xs → x ≡ get_or xs k x
    → so_far + whole (drop k xs) ≡ total → so_far + one x + whole (drop (k + 1) xs) ≡ total
added_more whole one adds xs k x so_far total below is before =
    let next = next_left whole xs k x below is in
    let parts = adds x (drop (k + 1) xs) in
    omega (arith, next, parts, before)

pub added_all : {X : Type 0} (whole : List X → ℕ) (xs : List X) (k so_far total : ℕ) → whole [] ≡ 0 → length xs ≤ k
    → so_far + whole (drop k xs) ≡ total → so_far ≡ total
added_all whole xs k so_far total none past before =
    let end = at_drop_all whole xs k past in
    omega (arith, end, none, before)
