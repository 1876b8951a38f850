-- The first line of a text.
use Rattle.std.proofs.Common.{◌≡◌, ℕ, ◌+◌, ◌<◌, ◌≤◌, ◌==◌, List, [], ◌∷◌, ◌++◌, take, drop, length, get_or, true, false}
use Rattle.std.proofs.Common.{refl, sym, ap, ◌∙◌, append-nil, append_assoc}
use Rattle.std.proofs.lemmas.List.{drop_more, take_more, drop_all, take_all}
use Rattle.evp_stones.specs.Order.{first_line}

-- no line feed stands before this place
abbrev pub LineSoFar : List ℕ → ℕ → Type 0
LineSoFar bytes count = first_line bytes ≡ take count bytes ++ first_line (drop count bytes)

goes_on : (byte : ℕ) (bytes : List ℕ) → (byte == 10) ≡ false → first_line (byte ∷ bytes) ≡ byte ∷ first_line bytes
goes_on byte bytes e = rw e refl

stops : (byte : ℕ) (bytes : List ℕ) → (byte == 10) ≡ true → first_line (byte ∷ bytes) ≡ []
stops byte bytes e = rw e refl

pub line_more : (bytes : List ℕ) (count : ℕ) → count < length bytes → (get_or bytes count 0 == 10) ≡ false → LineSoFar bytes count
    → LineSoFar bytes (count + 1)
line_more bytes count below other so_far =
    so_far ∙ ap (λ rest. take count bytes ++ first_line rest) (drop_more bytes count 0 below)
    ∙ ap (λ line. take count bytes ++ line) (goes_on (get_or bytes count 0) (drop (count + 1) bytes) other)
    ∙ sym (append_assoc (take count bytes) (get_or bytes count 0 ∷ []) (first_line (drop (count + 1) bytes)))
    ∙ ap (λ front. front ++ first_line (drop (count + 1) bytes)) (sym (take_more bytes count 0 below))

pub line_ends : (bytes : List ℕ) (count : ℕ) → count < length bytes → (get_or bytes count 0 == 10) ≡ true → LineSoFar bytes count
    → take count bytes ≡ first_line bytes
line_ends bytes count below feed so_far =
    sym (so_far ∙ ap (λ rest. take count bytes ++ first_line rest) (drop_more bytes count 0 below)
    ∙ ap (λ line. take count bytes ++ line) (stops (get_or bytes count 0) (drop (count + 1) bytes) feed) ∙ append-nil (take count bytes))

pub line_whole : (bytes : List ℕ) (count : ℕ) → length bytes ≤ count → LineSoFar bytes count → bytes ≡ first_line bytes
line_whole bytes count all so_far =
    sym (so_far ∙ ap (λ rest. take count bytes ++ first_line rest) (drop_all count bytes all) ∙ append-nil (take count bytes)
    ∙ take_all count bytes all)
