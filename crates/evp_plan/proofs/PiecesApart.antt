-- Pieces that don't meet may be put in either order: those of single numbers, and those of blocks with their pointers.
use Rattle.std.proofs.Common.{◌≡◌, ℕ, zero, suc, ◌+◌, ◌*◌, ◌≤◌, true, List, [], ◌∷◌, ◌++◌, length, ◌⊎◌, inl, inr}
use Rattle.std.proofs.Common.{Some, refl, sym, ap, ◌∙◌, subst, arith, pos}
use Rattle.std.specs.Prelude.{⊤}
use Rattle.std.specs.List.{All, list_all}
use Rattle.std.proofs.lemmas.List.Elements.{All-head, All-tail}
use Rattle.evp_base.specs.Numbers.{number, digits}
use Rattle.evp_base.proofs.Numbers.{length-digits}
use Rattle.evp_format.specs.Bytes.{bytes_at, next_block, put_at}
use Rattle.evp_format.specs.Datum.{Datum, num, null, text, list, rec}
use Rattle.evp_format.specs.Packing.{Piece, Pieces, Machine, pack_text, put_pieces}
use Rattle.evp_format.specs.Viewing.{Image}
use Rattle.evp_format.specs.Zero.{as_count}
use Rattle.evp_plan.specs.declared.block.Block.{Block}
use Rattle.evp_plan.specs.declared.block.Block.TheVariants as block
use Rattle.evp_plan.specs.declared.step.Op.{Op}
use Rattle.evp_plan.specs.declared.step.Op.TheVariants.{Number, Text, Nest, Each, Many}
use Rattle.evp_plan.specs.declared.step.Origin.TheVariants.{Standing}
use Rattle.evp_plan.specs.declared.step.Run.{Run}
use Rattle.evp_plan.specs.declared.step.Step.{Step}
use Rattle.evp_plan.specs.Cells.{is_plain_op, end_of}
use Rattle.evp_plan.specs.Laid.{width_of, IsBlockOf, IsBeside}
use Rattle.evp_plan.specs.Moving.{moved, moved_op, moved_elements, moved_many, moved_count, or_null}
use Rattle.evp_plan.specs.Program.{Program, program_of, inner_program}
use Rattle.evp_plan.specs.Standing.{origin_number, text_there, element_place}
use Rattle.evp_plan.proofs.Painted.{both_true}
use Rattle.evp_plan.proofs.PutAt.{put_swap, put_grows, put_front}

abbrev pub EachPiece : (Piece → Type 0) → List Piece → Type 0
EachPiece P [] = ⊤
EachPiece P (piece ∷ pieces) = P piece × EachPiece P pieces

pub each_piece : (P Q : Piece → Type 0) (pieces : List Piece) → ((piece : Piece) → P piece → Q piece) → EachPiece P pieces
    → EachPiece Q pieces
each_piece P Q [] every each = tt
each_piece P Q (piece ∷ pieces) every each = (every piece each.0, each_piece P Q pieces every each.1)

each_append : (P : Piece → Type 0) (first rest : List Piece) → EachPiece P first → EachPiece P rest → EachPiece P (first ++ rest)
each_append P [] rest each each' = each'
each_append P (piece ∷ first) rest each each' = (each.0, each_append P first rest each.1 each')

-- ---- either order

-- one ends before the other begins
abbrev pub IsApart : Piece → Piece → Type 0
IsApart piece other = (piece.at + length piece.bytes ≤ other.at) ⊎ (other.at + length other.bytes ≤ piece.at)

-- ends in the first so many bytes, apart from each of these
pub record IsInFront (fixed : ℕ) (pieces : List Piece) (piece : Piece) : Type 0 where
  pub fits : piece.at + length piece.bytes ≤ fixed
  pub apart : EachPiece (IsApart piece) pieces

pub pieces_grow : (pieces : List Piece) (out : List ℕ) → length out ≤ length (put_pieces pieces out)
pieces_grow [] out = omega arith
pieces_grow (piece ∷ pieces) out =
    let one = put_grows piece.at piece.bytes out in
    let rest = pieces_grow pieces (put_at piece.at piece.bytes out) in
    omega (arith, one, rest)

one_swap : (piece other : Piece) (fixed : ℕ) (out : List ℕ) → piece.at + length piece.bytes ≤ fixed → IsApart piece other
    → fixed ≤ length out
    → put_at other.at other.bytes (put_at piece.at piece.bytes out) ≡ put_at piece.at piece.bytes (put_at other.at other.bytes out)
one_swap piece other fixed out fits (inl before) room =
    sym (put_swap piece.at piece.bytes other.at other.bytes out before (omega (arith, fits, room)))
one_swap piece other fixed out fits (inr behind) room =
    put_swap other.at other.bytes piece.at piece.bytes out behind (omega (arith, fits, room, behind))

swap_one : (piece : Piece) (pieces : List Piece) (fixed : ℕ) (out : List ℕ) → piece.at + length piece.bytes ≤ fixed
    → EachPiece (IsApart piece) pieces → fixed ≤ length out
    → put_pieces pieces (put_at piece.at piece.bytes out) ≡ put_at piece.at piece.bytes (put_pieces pieces out)
swap_one piece [] fixed out fits apart room = refl
swap_one piece (other ∷ pieces) fixed out fits apart room =
    let grown = put_grows other.at other.bytes out in
    ap (put_pieces pieces) (one_swap piece other fixed out fits apart.0 room)
    ∙ swap_one piece pieces fixed (put_at other.at other.bytes out) fits apart.1 (omega (arith, grown, room))

pub swap_all : (front pieces : List Piece) (fixed : ℕ) (out : List ℕ) → EachPiece (IsInFront fixed pieces) front → fixed ≤ length out
    → put_pieces front (put_pieces pieces out) ≡ put_pieces pieces (put_pieces front out)
swap_all [] pieces fixed out each room = refl
swap_all (piece ∷ front) pieces fixed out each room =
    let grown = put_grows piece.at piece.bytes out in
    ap (put_pieces front) (sym (swap_one piece pieces fixed out each.0.fits each.0.apart room))
    ∙ swap_all front pieces fixed (put_at piece.at piece.bytes out) each.1 (omega (arith, grown, room))

-- pieces in the first so many bytes keep what stands behind
pub front_pieces : (pieces : List Piece) (fixed : ℕ) (front more : List ℕ)
    → EachPiece (λ piece. piece.at + length piece.bytes ≤ fixed) pieces → fixed ≤ length front
    → put_pieces pieces (front ++ more) ≡ put_pieces pieces front ++ more
front_pieces [] fixed front more each room = refl
front_pieces (piece ∷ pieces) fixed front more each room =
    let here = each.0 in
    let long = put_grows piece.at piece.bytes front in
    ap (put_pieces pieces) (put_front piece.at piece.bytes front more (omega (arith, here, room)))
    ∙ front_pieces pieces fixed (put_at piece.at piece.bytes front) more each.1 (omega (arith, long, room))

-- ---- pieces of blocks

-- a pointer of 8 bytes there, or behind the first so many bytes
abbrev pub IsOfBlock : ℕ → ℕ → Piece → Type 0
IsOfBlock to fixed piece = ((piece.at ≡ to) × (length piece.bytes ≡ 8)) ⊎ (fixed ≤ piece.at)

pub record AreOfBlock (to fixed after : ℕ) (pieces : Pieces) : Type 0 where
  pub each : EachPiece (IsOfBlock to fixed) pieces.all
  pub grows : after ≤ pieces.size

pointer_long : (machine : Machine) (q : ℕ) → machine.pointer ≡ 8 → length (digits machine.order machine.pointer (pos q)) ≡ 8
pointer_long machine q eight = length-digits machine.order machine.pointer (pos q) ∙ eight

of_text : (machine : Machine) (t fixed after : ℕ) (datum : Datum) → machine.pointer ≡ 8 → fixed ≤ after
    → AreOfBlock t fixed after (pack_text machine t datum after)
of_text machine t fixed after (text bytes) eight behind = record {
  each = (inl (refl, pointer_long machine (next_block after) eight), (inr (omega (arith, behind)), tt));
  grows = omega arith;
}
of_text machine t fixed after null eight behind = record { each = (inl (refl, pointer_long machine 0 eight), tt); grows = omega arith }
of_text machine t fixed after (num n) eight behind = record { each = (inl (refl, pointer_long machine 0 eight), tt); grows = omega arith }
of_text machine t fixed after (list elements) eight behind = record {
  each = (inl (refl, pointer_long machine 0 eight), tt);
  grows = omega arith;
}
of_text machine t fixed after (rec entries) eight behind = record {
  each = (inl (refl, pointer_long machine 0 eight), tt);
  grows = omega arith;
}

-- numbers in a block at q
of_elements : (bytes : ℕ → List ℕ) (to fixed q size n k after : ℕ) → fixed ≤ q
    → AreOfBlock to fixed after
    (moved_elements (λ i later. record { all = record { at = q + i * size; bytes = bytes i } ∷ []; size = later }) n k after)
of_elements bytes to fixed q size zero k after behind = record { each = tt; grows = omega arith }
of_elements bytes to fixed q size (suc n) k after behind =
    let rest = of_elements bytes to fixed q size n (suc k) after behind in
    record { each = (inr (omega (arith, behind)), rest.each); grows = rest.grows }

of_many : (machine : Machine) (bytes : ℕ → List ℕ) (t fixed size n after : ℕ) → machine.pointer ≡ 8 → fixed ≤ after
    → AreOfBlock t fixed after
    (moved_many machine t size n (λ k place later. record { all = record { at = place; bytes = bytes k } ∷ []; size = later }) after)
of_many machine bytes t fixed size zero after eight behind = record {
  each = (inl (refl, pointer_long machine 0 eight), tt);
  grows = omega arith;
}
of_many machine bytes t fixed size (suc n) after eight behind =
    let q = next_block after in
    let rest = of_elements bytes t fixed q size (suc n) 0 (q + suc n * size) (omega (arith, behind)) in
    let grows = rest.grows in
    record { each = (inl (refl, pointer_long machine q eight), rest.each); grows = omega (arith, grows) }

-- what a block's step puts
pub of_block : (image : Image) (machine : Machine) (one : Block) (step : Step) (inside : ℕ → ℕ → ℕ → Pieces) (t fixed after : ℕ)
    → machine.pointer ≡ 8 → IsBlockOf one step → fixed ≤ after
    → AreOfBlock t fixed after (moved_op image machine step.task.size step.task.op inside 0 t after)
of_block image machine (block.Text made) step inside t fixed after eight is behind =
    let Of : Op → Type 0 = λ op. AreOfBlock t fixed after (moved_op image machine step.task.size op inside 0 t after) in
    subst Of (sym is.op_is) (of_text machine t fixed after (or_null (text_there image 0 (Some made.from))) eight behind)
of_block image machine (block.Array array) step inside t fixed after eight is behind =
    let Of : Op → Type 0 = λ op. AreOfBlock t fixed after (moved_op image machine step.task.size op inside 0 t after) in
    let width = width_of array.form in
    let run : Run = record { count = Standing is.count; pointed = true; offset = array.from; stride = width } in
    let bytes : ℕ → List ℕ = λ k.
    digits machine.order step.task.size (number image.order is.from (bytes_at (element_place image 0 run k) width image.bytes)) in
    let count = moved_count image 0 (as_count (origin_number image 0 (Standing is.count))) (Some run) in
    subst Of (sym is.op_is) (of_many machine bytes t fixed step.task.size count after eight behind)

-- ---- pieces of single numbers

-- no size, and the same pieces whatever stands before
pub plain_pieces : (image : Image) (machine : Machine) (size at t after base : ℕ) (op : Op) (inside : ℕ → ℕ → ℕ → Pieces)
    → is_plain_op op ≡ true
    → moved_op image machine size op inside at t after
    ≡ record { all = (moved_op image machine size op inside at t base).all; size = after }
plain_pieces image machine size at t after base (Number kind origin) inside plain = refl
plain_pieces image machine size at t after base (Text from) inside plain = cc
plain_pieces image machine size at t after base (Nest s) inside plain = cc
plain_pieces image machine size at t after base (Each count elements) inside plain = cc
plain_pieces image machine size at t after base (Many origin elements) inside plain = cc

-- the piece of a number stands at its place
of_number : (P : Piece → Type 0) (image : Image) (machine : Machine) (size at t after : ℕ) (op : Op) (inside : ℕ → ℕ → ℕ → Pieces)
    → is_plain_op op ≡ true → ((bytes : List ℕ) → length bytes ≡ size → P (record { at = t; bytes = bytes }))
    → EachPiece P (moved_op image machine size op inside at t after).all
of_number P image machine size at t after (Number kind origin) inside plain holds =
    let bytes = digits machine.order size (origin_number image at origin) in
    (holds bytes (length-digits machine.order size (origin_number image at origin)), tt)
of_number P image machine size at t after (Text from) inside plain holds = cc
of_number P image machine size at t after (Nest s) inside plain holds = cc
of_number P image machine size at t after (Each count elements) inside plain holds = cc
of_number P image machine size at t after (Many origin elements) inside plain holds = cc

-- each piece of the numbers
of_numbers : (P : Piece → Type 0) (Q : Step → Type 0) (programs : List Program) (image : Image) (machine : Machine) (numbers : List Step)
    (fixed after : ℕ) → list_all (λ step. is_plain_op step.task.op) numbers ≡ true → end_of numbers ≤ fixed → All Q numbers
    → ((number : Step) (bytes : List ℕ) → Q number → number.task.offset + number.task.size ≤ fixed → length bytes ≡ number.task.size
    → P (record { at = 0 + number.task.offset; bytes = bytes }))
    → EachPiece P (moved image machine (program_of programs numbers) 0 0 after).all
of_numbers P Q programs image machine [] fixed after plain fits all holds = tt
of_numbers P Q programs image machine (number ∷ numbers) fixed after plain fits all holds =
    let parts = both_true (is_plain_op number.task.op) (list_all (λ s. is_plain_op s.task.op) numbers) plain in
    let inside : ℕ → ℕ → ℕ → Pieces = λ s t' later. moved image machine (inner_program programs number.inner) s t' later in
    let first = moved_op image machine number.task.size number.task.op inside 0 (0 + number.task.offset) after in
    each_append P first.all (moved image machine (program_of programs numbers) 0 0 first.size).all
    (of_number P image machine number.task.size 0 (0 + number.task.offset) after number.task.op inside parts.0
    (λ bytes long. holds number bytes (All-head Q number numbers all) (omega (arith, fits)) long))
    (of_numbers P Q programs image machine numbers fixed first.size parts.1 (omega (arith, fits)) (All-tail Q number numbers all) holds)

-- they end in the first so many bytes
pub numbers_front : (programs : List Program) (image : Image) (machine : Machine) (numbers : List Step) (fixed after : ℕ)
    → list_all (λ step. is_plain_op step.task.op) numbers ≡ true → end_of numbers ≤ fixed
    → EachPiece (λ piece. piece.at + length piece.bytes ≤ fixed) (moved image machine (program_of programs numbers) 0 0 after).all
numbers_front programs image machine numbers fixed after plain fits =
    of_numbers (λ piece. piece.at + length piece.bytes ≤ fixed) (λ number. ⊤) programs image machine numbers fixed after plain fits
    (λ k d below. tt) (λ number bytes always inside long. omega (arith, inside, long))

-- a number's piece that is beside a block's pointer is apart from its pieces
beside_block : (pointer number : Step) (bytes : List ℕ) (fixed : ℕ) (piece : Piece) → IsBeside pointer number
    → number.task.offset + number.task.size ≤ fixed → length bytes ≡ number.task.size
    → IsOfBlock (0 + pointer.task.offset) fixed piece → IsApart (record { at = 0 + number.task.offset; bytes = bytes }) piece
beside_block pointer number bytes fixed piece (inl before) fits long (inl there) =
    let at_is = there.0 in inl (omega (arith, before, long, at_is))
beside_block pointer number bytes fixed piece (inr behind) fits long (inl there) =
    let at_is = there.0 in
    let eight = there.1 in
    inr (omega (arith, behind, at_is, eight))
beside_block pointer number bytes fixed piece beside fits long (inr there) = inl (omega (arith, fits, long, there))

-- the numbers' pieces are apart from a block's
pub numbers_apart : (programs : List Program) (image : Image) (machine : Machine) (numbers : List Step) (pointer : Step)
    (pieces : List Piece) (fixed after : ℕ) → list_all (λ step. is_plain_op step.task.op) numbers ≡ true → end_of numbers ≤ fixed
    → All (IsBeside pointer) numbers → EachPiece (IsOfBlock (0 + pointer.task.offset) fixed) pieces
    → EachPiece (IsInFront fixed pieces) (moved image machine (program_of programs numbers) 0 0 after).all
numbers_apart programs image machine numbers pointer pieces fixed after plain fits beside of =
    of_numbers (IsInFront fixed pieces) (IsBeside pointer) programs image machine numbers fixed after plain fits beside
    (λ number bytes here inside long. record {
      fits = omega (arith, inside, long);
      apart = each_piece (IsOfBlock (0 + pointer.task.offset) fixed) (IsApart (record { at = 0 + number.task.offset; bytes = bytes })) pieces
          (λ piece there. beside_block pointer number bytes fixed piece here inside long there) of;
    })
