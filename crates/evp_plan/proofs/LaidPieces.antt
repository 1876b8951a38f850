-- A record's pieces are those of its blocks, put on what moves made of its numbers.
-- How each block's pieces lie: LaidFronts.
use Rattle.std.proofs.Common.{◌≡◌, ℕ, zero, suc, ◌+◌, ◌-◌, ◌≤◌, Bool, true, false, List, [], ◌∷◌, ◌++◌, length, take, get_or, refl, sym, ap}
use Rattle.std.proofs.Common.{◌∙◌, arith}
use Rattle.std.specs.Prelude.{replicate, if◌then◌else◌}
use Rattle.std.specs.List.{All, list_all}
use Rattle.std.proofs.lemmas.List.{length-take, length-replicate, append-nil, replicate-append-replicate}
use Rattle.std.proofs.lemmas.List.Elements.{All-head, All-tail}
use Rattle.evp_base.proofs.Digits.{AreBytes}
use Rattle.evp_format.specs.Packing.{Pieces, Machine, then_pack, put_pieces}
use Rattle.evp_format.specs.Viewing.{Image}
use Rattle.evp_plan.specs.declared.block.Block.{Block}
use Rattle.evp_plan.specs.declared.cell.Cell.{Cell}
use Rattle.evp_plan.specs.declared.step.Step.{Step}
use Rattle.evp_plan.specs.Cells.{cell_value, painted, painted_at, is_plain_op, end_of}
use Rattle.evp_plan.specs.Laid.{Laying, is_number, number_steps, block_steps, IsBeside, AreApart, AreCellsOf, AreBlocksOf, IsLaidOf}
use Rattle.evp_plan.specs.LaidOn.{IsLaidOn}
use Rattle.evp_plan.specs.Moving.{moved, moved_op}
use Rattle.evp_plan.specs.Program.{Program, inner_program, program_of}
use Rattle.evp_plan.specs.Ready.{IsReady}
use Rattle.evp_plan.proofs.Painted.{put_pieces-append, both_true, cells_make}
use Rattle.evp_plan.proofs.Painting.{length-painted}
use Rattle.evp_plan.proofs.PiecesApart.{pieces_grow, swap_all, front_pieces, of_block, plain_pieces, numbers_front, numbers_apart}

-- ---- the numbers first

-- the pieces of all steps are those of the numbers, and then those of the blocks
abbrev IsSplit : List Program → Image → Machine → List Step → List Step → List Step → Type 0
IsSplit programs image machine steps numbers blocks =
    (made : List Block) (fixed after : ℕ) (out : List ℕ) → list_all (λ step. is_plain_op step.task.op) numbers ≡ true
    → end_of numbers ≤ fixed → AreBlocksOf made blocks → AreApart blocks numbers → fixed ≤ after → fixed ≤ length out
    → ((moved image machine (program_of programs steps) 0 0 after).size ≡ (moved image machine (program_of programs blocks) 0 0 after).size)
    × (put_pieces (moved image machine (program_of programs steps) 0 0 after).all out
    ≡ put_pieces (moved image machine (program_of programs blocks) 0 0 after).all
    (put_pieces (moved image machine (program_of programs numbers) 0 0 fixed).all out))

split_number : (programs : List Program) (image : Image) (machine : Machine) (step : Step) (steps numbers blocks : List Step)
    → IsSplit programs image machine steps numbers blocks → IsSplit programs image machine (step ∷ steps) (step ∷ numbers) blocks
split_number programs image machine step steps numbers blocks others made fixed after out plain fits are apart behind room =
    let parts = both_true (is_plain_op step.task.op) (list_all (λ s. is_plain_op s.task.op) numbers) plain in
    let inside : ℕ → ℕ → ℕ → Pieces = λ s t' later. moved image machine (inner_program programs step.inner) s t' later in
    let place = 0 + step.task.offset in
    let first = moved_op image machine step.task.size step.task.op inside 0 place fixed in
    let here = plain_pieces image machine step.task.size 0 place after fixed step.task.op inside parts.0 in
    let same = plain_pieces image machine step.task.size 0 place fixed fixed step.task.op inside parts.0 in
    let rest : ℕ → Pieces = λ later. moved image machine (program_of programs steps) 0 0 later in
    let more : ℕ → Pieces = λ later. moved image machine (program_of programs numbers) 0 0 later in
    let behind_all = moved image machine (program_of programs blocks) 0 0 after in
    let on = put_pieces first.all out in
    let grown = pieces_grow first.all out in
    let split = others made fixed after on parts.1 (omega (arith, fits)) are
    (λ k d below. All-tail (IsBeside (get_or blocks k d)) step numbers (apart k d below)) behind (omega (arith, grown, room)) in (
      ap (λ (p : Pieces). (then_pack p rest).size) here ∙ split.0,
      ap (λ (p : Pieces). put_pieces (then_pack p rest).all out) here ∙ put_pieces-append first.all (rest after).all out ∙ split.1
          ∙ ap (put_pieces behind_all.all) (sym (ap (λ (p : Pieces). put_pieces (then_pack p more).all out) same
          ∙ put_pieces-append first.all (more fixed).all out)),
    )

split_block : (programs : List Program) (image : Image) (machine : Machine) (step : Step) (steps numbers blocks : List Step)
    → machine.pointer ≡ 8 → IsSplit programs image machine steps numbers blocks
    → IsSplit programs image machine (step ∷ steps) numbers (step ∷ blocks)
split_block programs image machine step steps numbers blocks eight others [] fixed after out plain fits are apart behind room = absurd are
split_block programs image machine step steps numbers blocks eight others (one ∷ made) fixed after out plain fits are apart behind room =
    let inside : ℕ → ℕ → ℕ → Pieces = λ s t' later. moved image machine (inner_program programs step.inner) s t' later in
    let first = moved_op image machine step.task.size step.task.op inside 0 (0 + step.task.offset) after in
    let of = of_block image machine one step inside (0 + step.task.offset) fixed after eight are.0 behind in
    let grows = of.grows in
    let rest = moved image machine (program_of programs steps) 0 0 first.size in
    let behind_all = moved image machine (program_of programs blocks) 0 0 first.size in
    let front = moved image machine (program_of programs numbers) 0 0 fixed in
    let on = put_pieces first.all out in
    let grown = pieces_grow first.all out in
    let split = others made fixed first.size on plain fits are.1 (All-tail (λ p. All (IsBeside p) numbers) step blocks apart) (omega (arith, grows, behind))
    (omega (arith, grown, room)) in
    let each = numbers_apart programs image machine numbers step first.all fixed fixed plain fits (All-head (λ p. All (IsBeside p) numbers) step blocks apart)
    of.each in (
      split.0,
      put_pieces-append first.all rest.all out ∙ split.1
          ∙ ap (put_pieces behind_all.all) (swap_all front.all first.all fixed out each room)
          ∙ sym (put_pieces-append first.all behind_all.all (put_pieces front.all out)),
    )

all_split : (programs : List Program) (image : Image) (machine : Machine) (steps : List Step) → machine.pointer ≡ 8
    → IsSplit programs image machine steps (number_steps steps) (block_steps steps)
all_split programs image machine [] eight = λ made fixed after out plain fits are apart behind room. (refl, refl)
all_split programs image machine (step ∷ steps) eight = by (is_number step.task.op) (all_split programs image machine steps eight)
  where
    by : (test : Bool) → IsSplit programs image machine steps (number_steps steps) (block_steps steps)
        → IsSplit programs image machine (step ∷ steps) (if test then step ∷ number_steps steps else number_steps steps)
        (if test then block_steps steps else step ∷ block_steps steps)
    by true others = split_number programs image machine step steps (number_steps steps) (block_steps steps) others
    by false others = split_block programs image machine step steps (number_steps steps) (block_steps steps) eight others

-- ---- what the numbers make

numbers_ready : (programs : List Program) (image : Image) (steps : List Step) → IsReady image (program_of programs steps) 0
    → IsReady image (program_of programs (number_steps steps)) 0
numbers_ready programs image [] ready = tt
numbers_ready programs image (step ∷ steps) ready = by (is_number step.task.op) (numbers_ready programs image steps ready.1)
  where
    by : (test : Bool) → IsReady image (program_of programs (number_steps steps)) 0
        → IsReady image (program_of programs (if test then step ∷ number_steps steps else number_steps steps)) 0
    by true others = (ready.0, others)
    by false others = others

take_painted : (from : List ℕ) (at n : ℕ) (cells : List Cell) (out : List ℕ)
    → take n (painted from at cells out) ≡ painted from at cells (take n out)
take_painted from at n [] out = refl
take_painted from at zero (cell ∷ cells) [] = refl
take_painted from at zero (cell ∷ cells) (old ∷ out) = refl
take_painted from at (suc n) (cell ∷ cells) [] = refl
take_painted from at (suc n) (cell ∷ cells) (old ∷ out) = ap (λ (l : List ℕ). cell_value from at cell old ∷ l)
    (take_painted from at n cells out)

numbers_made : (programs : List Program) (image : Image) (machine : Machine) (numbers : List Step) (cells : List Cell) (n : ℕ)
    (out : List ℕ) → AreCellsOf image.order machine.order numbers cells → IsReady image (program_of programs numbers) 0
    → AreBytes image.bytes → length cells ≤ n → length cells ≤ length out
    → put_pieces (moved image machine (program_of programs numbers) 0 0 (length cells)).all (replicate n 0)
    ≡ take (length cells) (painted_at image.bytes 0 0 cells out) ++ replicate (n - length cells) 0
numbers_made programs image machine numbers cells n out is ready are room long =
    let fixed = length cells in
    let pieces = moved image machine (program_of programs numbers) 0 0 fixed in
    let zeros : List ℕ = replicate fixed 0 in
    let behind : List ℕ = replicate (n - fixed) 0 in
    let count : fixed + (n - fixed) ≡ n = omega (arith, room) in
    let zeros_long = length-replicate {A = ℕ} fixed 0 in
    let taken = length-take fixed out in
    let whole : length (take fixed out) ≡ fixed = omega (arith, taken, long) in
    let front = numbers_front programs image machine numbers fixed fixed is.plain is.fits in
    ap (put_pieces pieces.all) (ap (λ (m : ℕ). replicate m 0) (sym count) ∙ sym (replicate-append-replicate fixed (n - fixed) 0))
    ∙ front_pieces pieces.all fixed zeros behind front (omega (arith, zeros_long))
    ∙ ap (λ (l : List ℕ). l ++ behind)
    (ap (λ (m : ℕ). put_pieces pieces.all (replicate m 0)) (sym whole)
    ∙ sym (cells_make programs image machine numbers cells 0 fixed (take fixed out) is ready are (sym whole))
    ∙ sym (take_painted image.bytes 0 fixed cells out))

-- ---- the law

-- `out` is any bytes, of which the moves make the first; n is at least their number
pub laid_pieces : (programs : List Program) (image : Image) (machine : Machine) (steps : List Step) (laid : Laying) (n : ℕ) (out : List ℕ)
    → machine.pointer ≡ 8 → IsLaidOf image.order machine.order programs steps laid
    → IsReady image (program_of programs steps) 0 → AreBytes image.bytes
    → length laid.numbers.cells ≤ n → length laid.numbers.cells ≤ length out
    → let fixed = length laid.numbers.cells in
    let all = moved image machine (program_of programs steps) 0 0 fixed in
    let blocks = moved image machine (program_of programs (block_steps steps)) 0 0 fixed in
    (all.size ≡ blocks.size)
    × (put_pieces all.all (replicate n 0)
    ≡ put_pieces blocks.all (take fixed (painted_at image.bytes 0 0 laid.numbers.cells out) ++ replicate (n - fixed) 0))
laid_pieces programs image machine steps laid n out eight is ready are room long =
    let fixed = length laid.numbers.cells in
    let zeros_long = length-replicate {A = ℕ} n 0 in
    let split = all_split programs image machine steps eight laid.blocks fixed fixed (replicate n 0) is.numbers.plain is.numbers.fits
    is.blocks is.apart (omega arith) (omega (arith, zeros_long, room)) in
    let blocks = moved image machine (program_of programs (block_steps steps)) 0 0 fixed in (
      split.0,
      split.1 ∙ ap (put_pieces blocks.all) (numbers_made programs image machine (number_steps steps) laid.numbers.cells n out is.numbers
          (numbers_ready programs image steps ready) are room long),
    )

-- where the blocks were laid on what the moves made, the whole record is made
pub laid_record : (programs : List Program) (image : Image) (machine : Machine) (steps : List Step) (laid : Laying) (out new : List ℕ)
    → machine.pointer ≡ 8 → IsLaidOf image.order machine.order programs steps laid
    → IsReady image (program_of programs steps) 0 → AreBytes image.bytes
    → length laid.numbers.cells ≤ length out
    → let fixed = length laid.numbers.cells in
    IsLaidOn (moved image machine (program_of programs (block_steps steps)) 0 0 fixed)
    (take fixed (painted_at image.bytes 0 0 laid.numbers.cells out)) new
    → let all = moved image machine (program_of programs steps) 0 0 fixed in
    (all.size ≡ length new) × (new ≡ put_pieces all.all (replicate (length new) 0))
laid_record programs image machine steps laid out new eight is ready are long made =
    let fixed = length laid.numbers.cells in
    let front = take fixed (painted_at image.bytes 0 0 laid.numbers.cells out) in
    let blocks = moved image machine (program_of programs (block_steps steps)) 0 0 fixed in
    let taken = length-take fixed (painted_at image.bytes 0 0 laid.numbers.cells out) in
    let painted_long = length-painted image.bytes 0 laid.numbers.cells out in
    let front_long : length front ≡ fixed = omega (arith, taken, painted_long, long) in
    let grows = made.grows in
    let law = laid_pieces programs image machine steps laid (length new) out eight is ready are (omega (arith, grows, front_long)) long in
    let none : length new - length new ≡ 0 = omega arith in (
      law.0 ∙ made.sized,
      sym (law.1
          ∙ ap (λ (m : ℕ). put_pieces blocks.all (front ++ replicate (length new - m) 0)) (sym front_long)
          ∙ made.put (length new) (omega arith)
          ∙ ap (λ (m : ℕ). new ++ replicate m 0) none ∙ append-nil new),
    )
