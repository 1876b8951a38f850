-- The loops that compile steps into cells, and gathers too.
use Rattle.std.proofs.Common.{◌≡◌, ℕ, zero, suc, ◌+◌, ◌<◌, ◌≤◌, List, [], ◌∷◌, ◌++◌, length, take, get_or, set, refl, sym, ap, ◌∙◌}
use Rattle.std.proofs.Common.{arith, add-one}
use Rattle.std.specs.Prelude.{Bool, true, ◌||◌, nat_lt, nat_le}
use Rattle.std.proofs.lemmas.Bool.Decides.{nat_tests}
use Rattle.evp_wide.specs.Masks.{are_within}
use Rattle.evp_plan.specs.Clean.{is_clean_byte, is_clean}
use Rattle.std.proofs.lemmas.List.{take_more, take_all}
use Rattle.evp_plan.specs.declared.cell.Cell.{Cell}
use Rattle.evp_plan.specs.declared.cell.Cell.TheVariants.{Keep, Byte}
use Rattle.evp_plan.specs.Cells.{over, laid_over, overlaid, bytes_from, resized, blend_cell, blend_cells}
use Rattle.evp_plan.proofs.Gathered.{length-blend_cells, clean_first}

pub overlaid_none : (place : ℕ) (cells : List Cell) → cells ≡ overlaid place [] cells
overlaid_none zero cells = refl
overlaid_none (suc place) [] = refl
overlaid_none (suc place) (cell ∷ cells) = ap (λ (l : List Cell). cell ∷ l) (overlaid_none place cells)

laid_next : (upper cells : List Cell) (k : ℕ) (d e : Cell) → k < length upper → length upper ≤ length cells
    → set (laid_over (take k upper) cells) k (over (get_or upper k d) (get_or (laid_over (take k upper) cells) k e))
    ≡ laid_over (take (suc k) upper) cells
laid_next [] cells k d e below room = absurd (omega arith)
laid_next (u ∷ upper) [] k d e below room = absurd (omega (arith, room))
laid_next (u ∷ upper) (cell ∷ cells) zero d e below room = refl
laid_next (u ∷ upper) (cell ∷ cells) (suc k) d e below room =
    ap (λ (l : List Cell). over u cell ∷ l) (laid_next upper cells k d e (omega (arith, below)) (omega (arith, room)))

overlaid_suc : (place : ℕ) (upper cells : List Cell) (k : ℕ) (d e : Cell) → k < length upper → place + length upper ≤ length cells
    → set (overlaid place (take k upper) cells) (place + k)
    (over (get_or upper k d) (get_or (overlaid place (take k upper) cells) (place + k) e)) ≡ overlaid place (take (suc k) upper) cells
overlaid_suc zero upper cells k d e below room =
    let none : zero + k ≡ k = omega arith in
    ap (λ (n : ℕ). set (laid_over (take k upper) cells) n (over (get_or upper k d) (get_or (laid_over (take k upper) cells) n e))) none
    ∙ laid_next upper cells k d e below (omega (arith, room))
overlaid_suc (suc place) upper [] k d e below room = absurd (omega (arith, room))
overlaid_suc (suc place) upper (cell ∷ cells) k d e below room =
    let next : suc place + k ≡ suc (place + k) = omega arith in
    ap (λ (n : ℕ). set (cell ∷ overlaid place (take k upper) cells) n
    (over (get_or upper k d) (get_or (cell ∷ overlaid place (take k upper) cells) n e))) next
    ∙ ap (λ (l : List Cell). cell ∷ l) (overlaid_suc place upper cells k d e below (omega (arith, room)))

-- one cell more is laid over
pub overlaid_next : (place k : ℕ) (upper cells now : List Cell) (made d e : Cell) → k < length upper → place + length upper ≤ length cells
    → now ≡ overlaid place (take k upper) cells
    → made ≡ over (get_or upper k d) (get_or now (place + k) e) → set now (place + k) made ≡ overlaid place (take (k + 1) upper) cells
overlaid_next place k upper cells now made d e below room is made_is =
    ap (set now (place + k)) made_is
    ∙ ap (λ (l : List Cell). set l (place + k) (over (get_or upper k d) (get_or l (place + k) e))) is
    ∙ overlaid_suc place upper cells k d e below room ∙ ap (λ (n : ℕ). overlaid place (take n upper) cells) (sym (add-one k))

bytes_from-push : (offset k : ℕ) → bytes_from offset (suc k) ≡ bytes_from offset k ++ Byte (offset + k) ∷ []
bytes_from-push offset zero = let none : offset + 0 ≡ offset = omega arith in ap (λ (n : ℕ). Byte n ∷ []) (sym none)
bytes_from-push offset (suc k) =
    let next : suc offset + k ≡ offset + suc k = omega arith in
    ap (λ (l : List Cell). Byte offset ∷ l) (bytes_from-push (suc offset) k)
    ∙ ap (λ (n : ℕ). Byte offset ∷ (bytes_from (suc offset) k ++ Byte n ∷ [])) next

pub bytes_next : (offset k : ℕ) (cells made : List Cell) → cells ≡ bytes_from offset k → made ≡ cells ++ Byte (offset + k) ∷ []
    → made ≡ bytes_from offset (k + 1)
bytes_next offset k cells made is pushed =
    pushed ∙ ap (λ (l : List Cell). l ++ Byte (offset + k) ∷ []) is ∙ sym (bytes_from-push offset k)
    ∙ ap (bytes_from offset) (sym (add-one k))

get_or-blend_cells : (signed : Bool) (at : ℕ) (places keeps constants : List ℕ) (k p q r : ℕ) (d : Cell)
    → k < length places → length keeps ≡ length places → length constants ≡ length places
    → get_or (blend_cells signed at places keeps constants) k d
    ≡ blend_cell signed at (get_or places k p) (get_or keeps k q) (get_or constants k r)
get_or-blend_cells signed at [] keeps constants k p q r d below long long' = absurd (omega arith)
get_or-blend_cells signed at (place ∷ places) [] constants k p q r d below long long' = absurd (omega (arith, long))
get_or-blend_cells signed at (place ∷ places) (keep ∷ keeps) [] k p q r d below long long' = absurd (omega (arith, long'))
get_or-blend_cells signed at (place ∷ places) (keep ∷ keeps) (constant ∷ constants) zero p q r d below long long' = refl
get_or-blend_cells signed at (place ∷ places) (keep ∷ keeps) (constant ∷ constants) (suc k) p q r d below long long' =
    get_or-blend_cells signed at places keeps constants k p q r d (omega (arith, below)) (omega (arith, long)) (omega (arith, long'))

pub blend_next : (signed : Bool) (at k p q r : ℕ) (places keeps constants : List ℕ) (cells made : List Cell) (cell : Cell)
    → k < 16 → length places ≡ 16 → length keeps ≡ 16 → length constants ≡ 16
    → cells ≡ take k (blend_cells signed at places keeps constants) → cell
    ≡ blend_cell signed at (get_or places k p) (get_or keeps k q) (get_or constants k r) → made ≡ cells ++ cell ∷ []
    → made ≡ take (k + 1) (blend_cells signed at places keeps constants)
blend_next signed at k p q r places keeps constants cells made cell below long long' long'' is cell_is pushed =
    let all = blend_cells signed at places keeps constants in
    let whole : length all ≡ 16 = length-blend_cells signed at places keeps constants (long' ∙ sym long) (long'' ∙ sym long) ∙ long in
    pushed ∙ ap (λ (l : List Cell). l ++ cell ∷ []) is
    ∙ ap (λ (c : Cell). take k all ++ c ∷ [])
    (cell_is ∙ sym (get_or-blend_cells signed at places keeps constants k p q r Keep (omega (arith, below, long)) (long' ∙ sym long)
    (long'' ∙ sym long)))
    ∙ sym (take_more all k Keep (omega (arith, below, whole)))

pub blend_end : (signed : Bool) (at k : ℕ) (places keeps constants : List ℕ) (cells : List Cell)
    → 16 ≤ k → length places ≡ 16 → length keeps ≡ 16 → length constants ≡ 16
    → cells ≡ take k (blend_cells signed at places keeps constants) → cells ≡ blend_cells signed at places keeps constants
blend_end signed at k places keeps constants cells past long long' long'' is =
    let all = blend_cells signed at places keeps constants in
    let whole : length all ≡ 16 = length-blend_cells signed at places keeps constants (long' ∙ sym long) (long'' ∙ sym long) ∙ long in
    is ∙ take_all k all (omega (arith, past, whole))

resized-push : (k : ℕ) (more : Cell) (cells : List Cell) → resized (suc k) more cells ≡ resized k more cells ++ get_or cells k more ∷ []
resized-push zero more [] = refl
resized-push zero more (cell ∷ cells) = refl
resized-push (suc k) more [] = ap (λ (l : List Cell). more ∷ l) (resized-push k more [])
resized-push (suc k) more (cell ∷ cells) = ap (λ (l : List Cell). cell ∷ l) (resized-push k more cells)

pub resized_next : (k : ℕ) (more : Cell) (cells now made : List Cell) (cell : Cell) → now ≡ resized k more cells
    → cell ≡ get_or cells k more → made ≡ now ++ cell ∷ [] → made ≡ resized (k + 1) more cells
resized_next k more cells now made cell is cell_is pushed =
    pushed ∙ ap (λ (l : List Cell). l ++ cell ∷ []) is ∙ ap (λ (c : Cell). resized k more cells ++ c ∷ []) cell_is
    ∙ sym (resized-push k more cells) ∙ ap (λ (n : ℕ). resized n more cells) (sym (add-one k))

-- a clean gather's places are in its window
within_byte : (place keep constant : ℕ) → is_clean_byte place keep constant ≡ true → (nat_lt place 16 || nat_le 128 place) ≡ true
within_byte place keep constant clean = grind (arith, nat_tests)

pub clean_within : (places keeps constants : List ℕ) → is_clean places keeps constants ≡ true → are_within 16 places ≡ true
clean_within [] keeps constants clean = refl
clean_within (place ∷ places) [] constants clean = cc
clean_within (place ∷ places) (keep ∷ keeps) [] clean = cc
clean_within (place ∷ places) (keep ∷ keeps) (constant ∷ constants) clean =
    let parts = clean_first place keep constant places keeps constants clean in
    rw (within_byte place keep constant parts.0) (clean_within places keeps constants parts.1)
