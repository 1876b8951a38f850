-- Painting by cells: one after the other is painting by cells that are laid over.
use Rattle.std.proofs.Common.{◌≡◌, ℕ, zero, suc, ◌+◌, ◌≤◌, List, [], ◌∷◌, ◌++◌, length, take, drop, refl, sym, ap, ◌∙◌, arith}
use Rattle.std.specs.Prelude.{⊤}
use Rattle.evp_format.specs.Bytes.{put_at}
use Rattle.evp_plan.specs.declared.cell.Cell.{Cell}
use Rattle.evp_plan.specs.declared.cell.Cell.TheVariants.{Keep, Constant, Byte, Sign}
use Rattle.evp_plan.specs.Cells.{cell_value, painted, painted_at, over, laid_over, overlaid}

value-over : (from : List ℕ) (at : ℕ) (upper below : Cell) (old : ℕ)
    → cell_value from at upper (cell_value from at below old) ≡ cell_value from at (over upper below) old
value-over from at Keep below old = refl
value-over from at (Constant byte) below old = refl
value-over from at (Byte offset) below old = refl
value-over from at (Sign offset) below old = refl

painted-laid_over : (from : List ℕ) (at : ℕ) (upper cells : List Cell) (out : List ℕ) → length upper ≤ length cells
    → length cells ≤ length out
    → painted from at upper (painted from at cells out) ≡ painted from at (laid_over upper cells) out
painted-laid_over from at [] cells out fits room = refl
painted-laid_over from at (cell ∷ upper) [] out fits room = absurd (omega arith)
painted-laid_over from at (cell ∷ upper) (below ∷ cells) [] fits room = absurd (omega arith)
painted-laid_over from at (cell ∷ upper) (below ∷ cells) (old ∷ out) fits room =
    ap (λ (byte : ℕ). byte ∷ painted from at upper (painted from at cells out)) (value-over from at cell below old)
    ∙ ap (λ (rest : List ℕ). cell_value from at (over cell below) old ∷ rest)
    (painted-laid_over from at upper cells out (omega arith) (omega arith))

painted-overlaid : (from : List ℕ) (at place : ℕ) (upper cells : List Cell) (out : List ℕ) → place + length upper ≤ length cells
    → length cells ≤ length out
    → painted_at from at place upper (painted from at cells out) ≡ painted from at (overlaid place upper cells) out
painted-overlaid from at zero upper cells out fits room = painted-laid_over from at upper cells out (omega arith) room
painted-overlaid from at (suc place) upper [] out fits room = absurd (omega arith)
painted-overlaid from at (suc place) upper (cell ∷ cells) [] fits room = absurd (omega arith)
painted-overlaid from at (suc place) upper (cell ∷ cells) (old ∷ out) fits room =
    ap (λ (rest : List ℕ). cell_value from at cell old ∷ rest) (painted-overlaid from at place upper cells out (omega arith) (omega arith))

pub painted_at-overlaid : (from : List ℕ) (at t place : ℕ) (upper cells : List Cell) (out : List ℕ) → place + length upper ≤ length cells
    → t + length cells ≤ length out
    → painted_at from at (t + place) upper (painted_at from at t cells out) ≡ painted_at from at t (overlaid place upper cells) out
painted_at-overlaid from at zero place upper cells out fits room =
    let none : zero + place ≡ place = omega arith in
    ap (λ (n : ℕ). painted_at from at n upper (painted from at cells out)) none
    ∙ painted-overlaid from at place upper cells out fits (omega arith)
painted_at-overlaid from at (suc t) place upper cells [] fits room = absurd (omega arith)
painted_at-overlaid from at (suc t) place upper cells (byte ∷ out) fits room =
    let next : suc t + place ≡ suc (t + place) = omega arith in
    ap (λ (n : ℕ). painted_at from at n upper (byte ∷ painted_at from at t cells out)) next
    ∙ ap (λ (rest : List ℕ). byte ∷ rest) (painted_at-overlaid from at t place upper cells out fits (omega arith))

pub length-painted : (from : List ℕ) (at : ℕ) (cells : List Cell) (out : List ℕ) → length (painted from at cells out) ≡ length out
length-painted from at [] out = refl
length-painted from at (cell ∷ cells) [] = refl
length-painted from at (cell ∷ cells) (old ∷ out) = ap suc (length-painted from at cells out)

pub length-painted_at : (from : List ℕ) (at t : ℕ) (cells : List Cell) (out : List ℕ) → length (painted_at from at t cells out) ≡ length out
length-painted_at from at zero cells out = length-painted from at cells out
length-painted_at from at (suc t) cells [] = refl
length-painted_at from at (suc t) cells (byte ∷ out) = ap suc (length-painted_at from at t cells out)

pub length-laid_over : (upper cells : List Cell) → length (laid_over upper cells) ≡ length cells
length-laid_over [] cells = refl
length-laid_over (cell ∷ upper) [] = refl
length-laid_over (cell ∷ upper) (below ∷ cells) = ap suc (length-laid_over upper cells)

pub length-overlaid : (place : ℕ) (upper cells : List Cell) → length (overlaid place upper cells) ≡ length cells
length-overlaid zero upper cells = length-laid_over upper cells
length-overlaid (suc place) upper [] = refl
length-overlaid (suc place) upper (cell ∷ cells) = ap suc (length-overlaid place upper cells)

-- ---- bytes that are put at a place

-- these bytes are what the cells make, whatever stood there
abbrev pub Makes : List ℕ → ℕ → List Cell → List ℕ → Type 0
Makes from at [] [] = ⊤
Makes from at [] (byte ∷ bytes) = ⊥
Makes from at (cell ∷ cells) [] = ⊥
Makes from at (cell ∷ cells) (byte ∷ bytes) = ((old : ℕ) → cell_value from at cell old ≡ byte) × Makes from at cells bytes

pub length-Makes : (from : List ℕ) (at : ℕ) (cells : List Cell) (bytes : List ℕ) → Makes from at cells bytes → length cells ≡ length bytes
length-Makes from at [] [] makes = refl
length-Makes from at [] (byte ∷ bytes) makes = absurd makes
length-Makes from at (cell ∷ cells) [] makes = absurd makes
length-Makes from at (cell ∷ cells) (byte ∷ bytes) makes = ap suc (length-Makes from at cells bytes makes.1)

painted-Makes : (from : List ℕ) (at : ℕ) (cells : List Cell) (bytes out : List ℕ) → Makes from at cells bytes → length cells ≤ length out
    → painted from at cells out ≡ bytes ++ drop (length bytes) out
painted-Makes from at [] [] out makes room = refl
painted-Makes from at [] (byte ∷ bytes) out makes room = absurd makes
painted-Makes from at (cell ∷ cells) [] out makes room = absurd makes
painted-Makes from at (cell ∷ cells) (byte ∷ bytes) [] makes room = absurd (omega arith)
painted-Makes from at (cell ∷ cells) (byte ∷ bytes) (old ∷ out) makes room =
    ap (λ (b : ℕ). b ∷ painted from at cells out) (makes.0 old)
    ∙ ap (λ (l : List ℕ). byte ∷ l) (painted-Makes from at cells bytes out makes.1 (omega arith))

pub painted_at-Makes : (from : List ℕ) (at t : ℕ) (cells : List Cell) (bytes out : List ℕ) → Makes from at cells bytes
    → t + length cells ≤ length out
    → painted_at from at t cells out ≡ put_at t bytes out
painted_at-Makes from at zero cells bytes out makes room =
    let none : zero + length bytes ≡ length bytes = omega arith in
    painted-Makes from at cells bytes out makes (omega arith) ∙ ap (λ (n : ℕ). bytes ++ drop n out) (sym none)
painted_at-Makes from at (suc t) cells bytes [] makes room = absurd (omega arith)
painted_at-Makes from at (suc t) cells bytes (byte ∷ out) makes room =
    let next : suc t + length bytes ≡ suc (t + length bytes) = omega arith in
    ap (λ (l : List ℕ). byte ∷ l) (painted_at-Makes from at t cells bytes out makes (omega arith))
    ∙ ap (λ (n : ℕ). byte ∷ take t out ++ bytes ++ drop n (byte ∷ out)) (sym next)
