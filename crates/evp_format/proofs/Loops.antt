-- A loop over a list, where a recursion over what is left says the answer.
use Rattle.std.proofs.Common.{◌≡◌, ℕ, ◌+◌, ◌<◌, ◌≤◌, List, [], ◌∷◌, length, get_or, drop, sym, ap, ◌∙◌}
use Rattle.std.proofs.lemmas.List.{at_drop_more, at_drop_all}

-- what is left is the next element and what is left behind it
pub next_left : {X Y : Type 0} (f : List X → Y) (xs : List X) (k : ℕ) (x : X) → k < length xs → x ≡ get_or xs k x
    → f (drop k xs) ≡ f (x ∷ drop (k + 1) xs)
next_left f xs k x below is = at_drop_more f xs k x below ∙ ap (λ y. f (y ∷ drop (k + 1) xs)) (sym is)

-- the answer is the same behind an element that doesn't settle it
pub goes_on : {X Y : Type 0} (f : ℕ → List X → Y) (xs : List X) (k : ℕ) (x : X) (total : Y) → k < length xs → x ≡ get_or xs k x
    → f k (x ∷ drop (k + 1) xs) ≡ f (k + 1) (drop (k + 1) xs) → f k (drop k xs) ≡ total → f (k + 1) (drop (k + 1) xs) ≡ total
goes_on f xs k x total below is passed so_far = sym passed ∙ sym (next_left (f k) xs k x below is) ∙ so_far

-- an element settles it
pub stops : {X Y : Type 0} (f : ℕ → List X → Y) (xs : List X) (k : ℕ) (x : X) (total answer : Y) → k < length xs → x ≡ get_or xs k x
    → f k (x ∷ drop (k + 1) xs) ≡ answer → f k (drop k xs) ≡ total → answer ≡ total
stops f xs k x total answer below is settled so_far = sym settled ∙ sym (next_left (f k) xs k x below is) ∙ so_far

-- nothing is left
pub ends : {X Y : Type 0} (f : ℕ → List X → Y) (xs : List X) (k : ℕ) (total answer : Y) → length xs ≤ k → f k [] ≡ answer
    → f k (drop k xs) ≡ total → answer ≡ total
ends f xs k total answer past none so_far = sym none ∙ sym (at_drop_all (f k) xs k past) ∙ so_far
