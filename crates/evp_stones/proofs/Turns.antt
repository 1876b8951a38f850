-- Turns that are listed, line by line.
use Rattle.std.proofs.Common.{◌≡◌, ℕ, ◌+◌, ◌-◌, ◌<◌, ◌≤◌, zero, suc, List, [], ◌∷◌, ◌++◌, drop, take, length, Result, Ok, Err}
use Rattle.std.proofs.Common.{refl, sym, ap, ◌∙◌, append-nil, append_assoc, subst, arith}
use Rattle.std.proofs.lemmas.List.{drop_all, drop-drop, length-drop, take_all}
use Rattle.evp_stones.specs.declared.refusal.Refusal.{Refusal}
use Rattle.evp_stones.specs.declared.refusal.Refusal.TheVariants.{Words, Absent, Read, TooLong, NotJson, Job, Data, Order, Memory}
use Rattle.evp_stones.specs.DecimalNumber.{number_in}
use Rattle.evp_stones.specs.Order.{behind_line, first_line, turn_at, turns_from, turns_of}
use Rattle.evp_stones.specs.Steps.{◌>>=◌, Gives}

-- what was listed so far, and what the other lines list behind it
abbrev pub TurnsSoFar : ℕ → List ℕ → List ℕ → ℕ → ℕ → List ℕ → Type 0
TurnsSoFar actors name bytes k at made =
    (lines : ℕ) → k + lines ≡ length bytes
    → turns_of actors name bytes ≡ (turns_from actors name lines at (drop at bytes) >>= λ others. Ok (made ++ others))

same_again : (turns : Result (List ℕ) Refusal) → turns ≡ (turns >>= λ others. Ok others)
same_again (Ok others) = refl
same_again (Err refusal) = refl

pub no_turns : (actors : ℕ) (name bytes : List ℕ) → TurnsSoFar actors name bytes 0 0 []
no_turns actors name bytes = λ lines e.
    ap (λ n. turns_from actors name n 0 bytes) (sym (omega (arith, e)))
    ∙ same_again (turns_from actors name lines 0 bytes)

ended : (actors : ℕ) (name : List ℕ) (lines at : ℕ) → turns_from actors name lines at [] ≡ Ok []
ended actors name zero at = refl
ended actors name (suc lines) at = refl

-- the bytes have ended
pub turns_end : (actors : ℕ) (name bytes : List ℕ) (k at : ℕ) (made : List ℕ) → k ≤ length bytes → length bytes ≤ at
    → TurnsSoFar actors name bytes k at made → turns_of actors name bytes ≡ Ok made
turns_end actors name bytes k at made few past so_far =
    so_far (length bytes - k) (omega (arith, few))
    ∙ ap (λ rest. turns_from actors name (length bytes - k) at rest >>= λ others. Ok (made ++ others)) (drop_all at bytes past)
    ∙ ap (λ turns. turns >>= λ others. Ok (made ++ others)) (ended actors name (length bytes - k) at)
    ∙ ap Ok (append-nil made)

-- each line was read
pub turns_all : (actors : ℕ) (name bytes : List ℕ) (k at : ℕ) (made : List ℕ) → k ≡ length bytes
    → TurnsSoFar actors name bytes k at made → turns_of actors name bytes ≡ Ok made
turns_all actors name bytes k at made all so_far = so_far 0 (omega (arith, all)) ∙ ap Ok (append-nil made)

-- a line more
opened : (actors : ℕ) (name : List ℕ) (lines at : ℕ) (bytes : List ℕ) → 0 < length bytes
    → turns_from actors name (suc lines) at bytes
    ≡ (turn_at name at (number_in actors (first_line bytes)) >>= λ actor.
    turns_from actors name lines (at + length (first_line bytes) + 1) (behind_line bytes) >>= λ others. Ok (actor ∷ others))
opened actors name lines at [] some = absurd (omega (arith, some))
opened actors name lines at (byte ∷ bytes) some = refl

-- with what stands before it
with_more : (turns : Result (List ℕ) Refusal) (made : List ℕ) (actor : ℕ)
    → ((turns >>= λ others. Ok (actor ∷ others)) >>= λ others. Ok (made ++ others))
    ≡ (turns >>= λ others. Ok ((made ++ actor ∷ []) ++ others))
with_more (Ok others) made actor = ap Ok (sym (append_assoc made (actor ∷ []) others))
with_more (Err refusal) made actor = refl

there : (n : ℕ) (xs : List ℕ) → n < length xs → 0 < length (drop n xs)
there n xs h = rw (length-drop n xs) (omega (arith, h))

further : (n m : ℕ) (xs : List ℕ) → drop (m + 1) (drop n xs) ≡ drop (n + m + 1) xs
further n m xs = drop-drop (m + 1) n xs ∙ ap (λ k. drop k xs) {x = n + (m + 1)} {y = n + m + 1} (omega arith)

bound_err : (first : Result ℕ Refusal) (rest : ℕ → Result (List ℕ) Refusal) (made : List ℕ) (refusal : Refusal) → first ≡ Err refusal
    → ((first >>= rest) >>= λ others. Ok (made ++ others)) ≡ Err refusal
bound_err first rest made refusal e = rw e refl

bound_ok : (first : Result ℕ Refusal) (rest : ℕ → Result (List ℕ) Refusal) (made : List ℕ) (actor : ℕ) → first ≡ Ok actor
    → ((first >>= rest) >>= λ others. Ok (made ++ others)) ≡ (rest actor >>= λ others. Ok (made ++ others))
bound_ok first rest made actor e = rw e refl

-- which is refused
pub turn_refused : (actors : ℕ) (name bytes : List ℕ) (k at : ℕ) (made : List ℕ) (refusal : Refusal) → k < length bytes → at < length bytes
    → turn_at name at (number_in actors (first_line (drop at bytes))) ≡ Err refusal → TurnsSoFar actors name bytes k at made
    → turns_of actors name bytes ≡ Err refusal
turn_refused actors name bytes k at made refusal few below bad so_far =
    let lines = length bytes - (k + 1) in
    so_far (suc lines) (omega (arith, few))
    ∙ ap (λ turns. turns >>= λ others. Ok (made ++ others)) (opened actors name lines at (drop at bytes) (there at bytes below))
    ∙ bound_err (turn_at name at (number_in actors (first_line (drop at bytes))))
    (λ actor. turns_from actors name lines (at + length (first_line (drop at bytes)) + 1) (behind_line (drop at bytes))
    >>= λ others. Ok (actor ∷ others))
    made refusal bad

turn_added : (actors : ℕ) (name bytes : List ℕ) (k at : ℕ) (made : List ℕ) (actor : ℕ) → at < length bytes
    → turn_at name at (number_in actors (first_line (drop at bytes))) ≡ Ok actor → TurnsSoFar actors name bytes k at made
    → TurnsSoFar actors name bytes (k + 1) (at + length (first_line (drop at bytes)) + 1) (made ++ actor ∷ [])
turn_added actors name bytes k at made actor below good so_far = λ lines e.
    let later = at + length (first_line (drop at bytes)) + 1 in
    so_far (suc lines) (omega (arith, e))
    ∙ ap (λ turns. turns >>= λ others. Ok (made ++ others)) (opened actors name lines at (drop at bytes) (there at bytes below))
    ∙ bound_ok (turn_at name at (number_in actors (first_line (drop at bytes))))
    (λ number. turns_from actors name lines later (behind_line (drop at bytes)) >>= λ others. Ok (number ∷ others)) made actor good
    ∙ with_more (turns_from actors name lines later (behind_line (drop at bytes))) made actor
    ∙ ap (λ rest. turns_from actors name lines later rest >>= λ others. Ok ((made ++ actor ∷ []) ++ others))
    (further at (length (first_line (drop at bytes))) bytes)

pub turn_more : (actors : ℕ) (name bytes : List ℕ) (k at : ℕ) (made : List ℕ) (actor : ℕ) → at < length bytes
    → turn_at name at (number_in actors (first_line (drop at bytes))) ≡ Ok actor → TurnsSoFar actors name bytes k at made
    → TurnsSoFar actors name bytes (k + 1) (at + (length (first_line (drop at bytes)) + 1)) (made ++ actor ∷ [])
turn_more actors name bytes k at made actor below good so_far =
    subst (λ (place : ℕ). TurnsSoFar actors name bytes (k + 1) place (made ++ actor ∷ []))
    {x = at + length (first_line (drop at bytes)) + 1} {y = at + (length (first_line (drop at bytes)) + 1)} (omega arith)
    (turn_added actors name bytes k at made actor below good so_far)

-- the bytes from a place on, up to their end
pub rest_is : (at : ℕ) (bytes : List ℕ) → take (length bytes - at) (drop at bytes) ≡ drop at bytes
rest_is at bytes = take_all (length bytes - at) (drop at bytes) (rw (length-drop at bytes) (omega arith))

-- a refusal of a part is that of the whole, or memory ran out
pub refused_too : {X Y : Type 0} (refusal : Refusal) (part : Result X Refusal) (whole : Result Y Refusal)
    → (part ≡ Err refusal → whole ≡ Err refusal) → Gives (Err refusal) part → Gives (Err refusal) whole
refused_too Words part whole on gives = gives
refused_too (Absent name) part whole on gives = gives
refused_too (Read name) part whole on gives = gives
refused_too (TooLong name) part whole on gives = on gives
refused_too NotJson part whole on gives = on gives
refused_too (Job fault) part whole on gives = on gives
refused_too (Data name fault) part whole on gives = on gives
refused_too (Order name at) part whole on gives = on gives
refused_too Memory part whole on gives = tt
