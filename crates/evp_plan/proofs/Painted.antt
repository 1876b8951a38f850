-- Steps that make single numbers paint by their cells.
use Rattle.std.proofs.Common.{◌≡◌, ◌≢◌, ℕ, zero, suc, ◌<◌, ◌+◌, ◌-◌, ◌≤◌, IsTrue, Bool, true, false, ◌&&◌, List, [], ◌∷◌, ◌++◌, length}
use Rattle.std.proofs.Common.{get_or, inl, inr, refl, sym, ap, ◌∙◌, subst, arith}
use Rattle.std.specs.List.{list_all}
use Rattle.std.proofs.lemmas.Bool.Decides.{nat_tests}
use Rattle.evp_base.specs.declared.kind.Kind.{Kind}
use Rattle.evp_base.specs.declared.kind.Kind.TheVariants.{Int, Unsigned, Char, Boolean, Enumeration}
use Rattle.evp_base.specs.declared.order.Order.{Order}
use Rattle.evp_base.specs.Numbers.{digits, is_size_of}
use Rattle.evp_base.proofs.Digits.{AreBytes}
use Rattle.evp_base.proofs.Numbers.{length-digits}
use Rattle.evp_format.specs.Bytes.{put_at}
use Rattle.evp_format.specs.Packing.{Piece, Pieces, Machine, put_pieces}
use Rattle.evp_format.specs.Viewing.{Image}
use Rattle.evp_plan.specs.declared.cell.Cell.{Cell}
use Rattle.evp_plan.specs.declared.step.Op.{Op}
use Rattle.evp_plan.specs.declared.step.Op.TheVariants.{Number, Text, Nest, Each, Many}
use Rattle.evp_plan.specs.declared.step.Origin.{Origin}
use Rattle.evp_plan.specs.declared.step.Origin.TheVariants.{Standing, Stated}
use Rattle.evp_plan.specs.declared.step.Step.{Step}
use Rattle.evp_plan.specs.Cells.{painted_at, overlaid, origin_cells, op_cells, steps_over, end_of, source_end, reach_of, is_plain_kind}
use Rattle.evp_plan.specs.Cells.{is_plain_op, Moving, AreMovesOver, IsMovesOf, IsWholeOf, AreMovesOf}
use Rattle.evp_format.proofs.Pushed.{slice_get-push}
use Rattle.evp_plan.specs.Laid.{AreCellsOf}
use Rattle.evp_plan.specs.Moving.{moved, moved_op}
use Rattle.evp_plan.specs.Sound.{IsSoundOp, IsSound}
use Rattle.evp_plan.proofs.Gathered.{no_gather, painted-zeros}
use Rattle.std.proofs.lemmas.List.{length-replicate, length-append}
use Rattle.std.specs.Prelude.{slice_get, replicate, IfOk, IfSome, Result, Ok, Err, Option, Some, None}
use Rattle.evp_plan.specs.declared.cell.Cell.TheVariants.{Keep, Constant}
use Rattle.evp_plan.specs.Program.{Program, inner_program, program_of}
use Rattle.evp_plan.specs.Ready.{IsOriginThere, IsOpThere, IsReady}
use Rattle.evp_plan.specs.Standing.{origin_number}
use Rattle.evp_plan.proofs.NumberCells.{number_made, constants_made}
use Rattle.evp_plan.proofs.Painting.{Makes, length-Makes, painted_at-Makes, painted_at-overlaid, length-painted_at, length-overlaid}

no_boolean : (kind : Kind) → is_plain_kind kind ≡ true → kind ≢ Boolean
no_boolean kind plain is = (let no : is_plain_kind Boolean ≡ true = subst (λ (k : Kind). is_plain_kind k ≡ true) is plain in cc)

some_bytes : (kind : Kind) (size : ℕ) → IsTrue (is_size_of kind size) → 1 ≤ size
some_bytes Int size allowed = grind (arith, nat_tests)
some_bytes Unsigned size allowed = grind (arith, nat_tests)
some_bytes Char size allowed = grind (arith, nat_tests)
some_bytes Boolean size allowed = grind (arith, nat_tests)
some_bytes Enumeration size allowed = grind (arith, nat_tests)

origin_made : (order : Order) (image : Image) (at size : ℕ) (kind : Kind) (origin : Origin) → is_plain_op (Number kind origin) ≡ true
    → IsOriginThere image at origin → AreBytes image.bytes
    → Makes image.bytes at (origin_cells order size image.order origin) (digits order size (origin_number image at origin))
origin_made order image at size kind (Standing source) plain there are =
    number_made order image.order source.kind image.bytes at source.offset source.size size (no_boolean source.kind plain)
    (some_bytes source.kind source.size there.1) are there.0
origin_made order image at size kind (Stated n) plain there are = constants_made image.bytes at (digits order size n)

-- what one step puts
put_op : (image : Image) (machine : Machine) (at t offset size after : ℕ) (op : Op) (inner : Program) (cells : List Cell) (out : List ℕ)
    → is_plain_op op ≡ true
    → IsOpThere image at op (λ s. IsReady image inner s) → AreBytes image.bytes → offset + size ≤ length cells
    → t + length cells ≤ length out
    → put_pieces (moved_op image machine size op (λ s t' later. moved image machine inner s t' later) at (t + offset) after).all
    (painted_at image.bytes at t cells out)
    ≡ painted_at image.bytes at t (overlaid offset (op_cells machine.order size image.order op) cells) out
put_op image machine at t offset size after (Number kind origin) inner cells out plain there are fits room =
    let made = origin_made machine.order image at size kind origin plain there are in
    let upper = origin_cells machine.order size image.order origin in
    let bytes = digits machine.order size (origin_number image at origin) in
    let long : length upper ≡ size = length-Makes image.bytes at upper bytes made
    ∙ length-digits machine.order size (origin_number image at origin) in
    let whole = length-painted_at image.bytes at t cells out in
    sym (painted_at-Makes image.bytes at (t + offset) upper bytes (painted_at image.bytes at t cells out) made
    (omega (arith, long, fits, room, whole)))
    ∙ painted_at-overlaid image.bytes at t offset upper cells out (omega (arith, long, fits)) room
put_op image machine at t offset size after (Text from) inner cells out plain there are fits room = cc
put_op image machine at t offset size after (Nest s) inner cells out plain there are fits room = cc
put_op image machine at t offset size after (Each count elements) inner cells out plain there are fits room = cc
put_op image machine at t offset size after (Many origin elements) inner cells out plain there are fits room = cc

plain_size : (image : Image) (machine : Machine) (size at t after : ℕ) (op : Op) (inside : ℕ → ℕ → ℕ → Pieces) → is_plain_op op ≡ true
    → (moved_op image machine size op inside at t after).size ≡ after
plain_size image machine size at t after (Number kind origin) inside plain = refl
plain_size image machine size at t after (Text from) inside plain = cc
plain_size image machine size at t after (Nest s) inside plain = cc
plain_size image machine size at t after (Each count elements) inside plain = cc
plain_size image machine size at t after (Many origin elements) inside plain = cc

pub put_pieces-append : (first rest : List Piece) (bytes : List ℕ) → put_pieces (first ++ rest) bytes ≡ put_pieces rest (put_pieces first bytes)
put_pieces-append [] rest bytes = refl
put_pieces-append (piece ∷ first) rest bytes = put_pieces-append first rest (put_at piece.at piece.bytes bytes)

pub both_true : (a b : Bool) → (a && b) ≡ true → (a ≡ true) × (b ≡ true)
both_true true b is = (refl, is)
both_true false b is = cc

-- what the steps put, and the size behind
pub steps_painted : (programs : List Program) (image : Image) (machine : Machine) (steps : List Step) (at t after : ℕ) (cells : List Cell)
    (out : List ℕ)
    → list_all (λ step. is_plain_op step.task.op) steps ≡ true → IsReady image (program_of programs steps) at → AreBytes image.bytes
    → end_of steps ≤ length cells → t + length cells ≤ length out
    → (put_pieces (moved image machine (program_of programs steps) at t after).all (painted_at image.bytes at t cells out)
    ≡ painted_at image.bytes at t (steps_over machine.order image.order steps cells) out)
    × ((moved image machine (program_of programs steps) at t after).size ≡ after)
steps_painted programs image machine [] at t after cells out plain ready are fits room = (refl, refl)
steps_painted programs image machine (step ∷ steps) at t after cells out plain ready are fits room =
    let parts = both_true (is_plain_op step.task.op) (list_all (λ s. is_plain_op s.task.op) steps) plain in
    let inner = inner_program programs step.inner in
    let upper = op_cells machine.order step.task.size image.order step.task.op in
    let first = moved_op image machine step.task.size step.task.op (λ s t' later. moved image machine inner s t' later) at
    (t + step.task.offset) after in
    let same : first.size ≡ after = plain_size image machine step.task.size at (t + step.task.offset) after step.task.op
    (λ s t' later. moved image machine inner s t' later) parts.0 in
    let on = overlaid step.task.offset upper cells in
    let long = length-overlaid step.task.offset upper cells in
    let rest = steps_painted programs image machine steps at t first.size on out parts.1 ready.1 are (omega (arith, fits, long))
    (omega (arith, room, long)) in
    let put = put_op image machine at t step.task.offset step.task.size after step.task.op inner cells out parts.0 ready.0 are
    (omega (arith, fits)) room in (
      put_pieces-append first.all (moved image machine (program_of programs steps) at t first.size).all
          (painted_at image.bytes at t cells out)
          ∙ ap (put_pieces (moved image machine (program_of programs steps) at t first.size).all) put ∙ rest.0,
      rest.1 ∙ same,
    )

-- what the steps read is inside the bytes
origin_reach : (image : Image) (at : ℕ) (op : Op) (Inside : ℕ → Type 0) → at ≤ length image.bytes → IsOpThere image at op Inside
    → at + source_end op ≤ length image.bytes
origin_reach image at (Number kind (Standing source)) Inside here there = let inside = there.0 in omega (arith, inside)
origin_reach image at (Number kind (Stated n)) Inside here there = omega (arith, here)
origin_reach image at (Text from) Inside here there = omega (arith, here)
origin_reach image at (Nest offset) Inside here there = omega (arith, here)
origin_reach image at (Each count elements) Inside here there = omega (arith, here)
origin_reach image at (Many origin elements) Inside here there = omega (arith, here)

pub reach_inside : (programs : List Program) (image : Image) (steps : List Step) (at : ℕ) → at ≤ length image.bytes
    → IsReady image (program_of programs steps) at → at + reach_of steps ≤ length image.bytes
reach_inside programs image [] at here ready = omega (arith, here)
reach_inside programs image (step ∷ steps) at here ready =
    let first = origin_reach image at step.task.op (λ s. IsReady image (inner_program programs step.inner) s) here ready.0 in
    let rest = reach_inside programs image steps at here ready.1 in
    omega (arith, first, rest)

-- ---- moves

plain_end : (pointer length offset size : ℕ) (op : Op) (Inside : ℕ → Type 0) → is_plain_op op ≡ true
    → IsSoundOp pointer length offset size op Inside → offset + size ≤ length
plain_end pointer length offset size (Number kind origin) Inside plain sound = sound.0
plain_end pointer length offset size (Text from) Inside plain sound = cc
plain_end pointer length offset size (Nest s) Inside plain sound = cc
plain_end pointer length offset size (Each count elements) Inside plain sound = cc
plain_end pointer length offset size (Many origin elements) Inside plain sound = cc

-- plain steps end inside their record
pub sound_end : (pointer : ℕ) (programs : List Program) (steps : List Step) (levels length : ℕ)
    → list_all (λ step. is_plain_op step.task.op) steps ≡ true
    → IsSound pointer (program_of programs steps) levels length → end_of steps ≤ length
sound_end pointer programs [] levels length plain sound = omega arith
sound_end pointer programs (step ∷ steps) levels length plain sound =
    let parts = both_true (is_plain_op step.task.op) (list_all (λ s. is_plain_op s.task.op) steps) plain in
    let first = plain_end pointer length step.task.offset step.task.size step.task.op
    (λ size. IsSound pointer (inner_program programs step.inner) (levels - 1) size) parts.0 sound.1 in
    let rest = sound_end pointer programs steps levels length parts.1 sound.2 in
    omega (arith, first, rest)

length-steps_over : (order from_order : Order) (steps : List Step) (cells : List Cell)
    → length (steps_over order from_order steps cells) ≡ length cells
length-steps_over order from_order [] cells = refl
length-steps_over order from_order (step ∷ steps) cells =
    length-steps_over order from_order steps (overlaid step.task.offset (op_cells order step.task.size from_order step.task.op) cells)
    ∙ length-overlaid step.task.offset (op_cells order step.task.size from_order step.task.op) cells

-- moves over zeros make a whole record
pub whole_over : (from_order order : Order) (steps : List Step) (moves : Moving) (count : ℕ)
    → AreMovesOver from_order order steps (replicate count (Constant 0)) moves → end_of steps ≤ count
    → IsWholeOf from_order order steps moves × (length moves.cells ≡ count)
whole_over from_order order steps moves count over fits =
    let long : length moves.cells ≡ count = ap length over.cells
    ∙ length-steps_over order from_order steps (replicate count (Constant 0)) ∙ length-replicate {A = Cell} count (Constant 0) in
    let Over : ℕ → Type 0 = λ n. AreMovesOver from_order order steps (replicate n (Constant 0)) moves in
    (record { fits = omega (arith, long, fits); over = subst Over (sym long) over }, long)

pub whole_all : {E : Type 0} (from_order order : Order) (steps : List Step) (count : ℕ) (made : Result (Option Moving) E)
    → IfOk made (λ some. IfSome some (AreMovesOver from_order order steps (replicate count (Constant 0)))) → end_of steps ≤ count
    → IfOk made (λ some. IfSome some (λ moves. IsWholeOf from_order order steps moves × (length moves.cells ≡ count)))
whole_all from_order order steps count (Ok None) over fits = tt
whole_all from_order order steps count (Ok (Some moves)) over fits = whole_over from_order order steps moves count over fits
whole_all from_order order steps count (Err fault) over fits = tt

-- what cells write that make a whole record, is what the steps put over zeros
pub cells_make : (programs : List Program) (image : Image) (machine : Machine) (steps : List Step) (cells : List Cell) (at after : ℕ)
    (out : List ℕ) → AreCellsOf image.order machine.order steps cells → IsReady image (program_of programs steps) at
    → AreBytes image.bytes → length cells ≡ length out
    → painted_at image.bytes at 0 cells out
    ≡ put_pieces (moved image machine (program_of programs steps) at 0 after).all (replicate (length out) 0)
cells_make programs image machine steps cells at after out is ready are long =
    let zeros = replicate (length cells) (Constant 0) in
    let zeros_long : length zeros ≡ length cells = length-replicate {A = Cell} (length cells) (Constant 0) in
    let fits = is.fits in
    let made = steps_painted programs image machine steps at 0 after zeros out is.plain ready are (omega (arith, fits, zeros_long))
    (omega (arith, zeros_long, long)) in
    ap (λ (c : List Cell). painted_at image.bytes at 0 c out) is.over ∙ sym made.0
    ∙ ap (put_pieces (moved image machine (program_of programs steps) at 0 after).all)
    (painted-zeros image.bytes at (length cells) out long)

-- the same of moves
pub whole_make : (programs : List Program) (image : Image) (machine : Machine) (steps : List Step) (moves : Moving) (at after : ℕ)
    (out : List ℕ) → IsWholeOf image.order machine.order steps moves → IsReady image (program_of programs steps) at
    → AreBytes image.bytes → length moves.cells ≡ length out
    → painted_at image.bytes at 0 moves.cells out
    ≡ put_pieces (moved image machine (program_of programs steps) at 0 after).all (replicate (length out) 0)
whole_make programs image machine steps moves at after out is ready are long =
    cells_make programs image machine steps moves.cells at after out
    (record { plain = is.over.plain; fits = is.fits; over = is.over.cells }) ready are long

-- and what they make has no more bytes
pub whole_size : (programs : List Program) (image : Image) (machine : Machine) (steps : List Step) (moves : Moving) (at after : ℕ)
    → IsWholeOf image.order machine.order steps moves → IsReady image (program_of programs steps) at → AreBytes image.bytes
    → after ≡ (moved image machine (program_of programs steps) at 0 after).size
whole_size programs image machine steps moves at after is ready are =
    let zeros = replicate (length moves.cells) (Constant 0) in
    let out = replicate {A = ℕ} (length moves.cells) 0 in
    let zeros_long : length zeros ≡ length moves.cells = length-replicate {A = Cell} (length moves.cells) (Constant 0) in
    let long : length out ≡ length moves.cells = length-replicate {A = ℕ} (length moves.cells) 0 in
    let fits = is.fits in
    sym (steps_painted programs image machine steps at 0 after zeros out is.over.plain ready are (omega (arith, fits, zeros_long))
    (omega (arith, zeros_long, long))).1

pub moves_long : (from_order order : Order) (steps : List Step) (moves : Moving) → IsMovesOf from_order order steps moves
    → length moves.cells ≡ end_of steps
moves_long from_order order steps moves is =
    ap length is.cells ∙ length-steps_over order from_order steps (replicate (end_of steps) Keep)
    ∙ length-replicate {A = Cell} (end_of steps) Keep

-- what the moves write is what the steps put
pub moves_make : (programs : List Program) (image : Image) (machine : Machine) (steps : List Step) (moves : Moving) (at t after : ℕ)
    (out : List ℕ) → IsMovesOf image.order machine.order steps moves
    → IsReady image (program_of programs steps) at → AreBytes image.bytes → t + end_of steps ≤ length out
    → (painted_at image.bytes at t moves.cells out ≡ put_pieces (moved image machine (program_of programs steps) at t after).all out)
    × (after ≡ (moved image machine (program_of programs steps) at t after).size)
moves_make programs image machine steps moves at t after out is ready are room =
    let kept = replicate (end_of steps) Keep in
    let long : length kept ≡ end_of steps = length-replicate {A = Cell} (end_of steps) Keep in
    let made = steps_painted programs image machine steps at t after kept out is.plain ready are (omega (arith, long))
    (omega (arith, long, room)) in (
      ap (λ (c : List Cell). painted_at image.bytes at t c out) is.cells ∙ sym made.0
          ∙ ap (put_pieces (moved image machine (program_of programs steps) at t after).all)
          (no_gather image.bytes at t (end_of steps) out),
      sym made.1,
    )

pub any_or : (table : List (List Step)) (k : ℕ) (d e : List Step) → k < length table → get_or table k d ≡ get_or table k e
any_or [] k d e below = absurd (omega arith)
any_or (steps ∷ table) zero d e below = refl
any_or (steps ∷ table) (suc k) d e below = any_or table k d e (omega (arith, below))

-- the moves of one list of steps more
pub moves_more : (from order : Order) (table : List (List Step)) (all made : List (Option Moving)) (next : Option Moving) (k : ℕ)
    → AreMovesOf from order table all → length all ≡ k → IfSome next (IsMovesOf from order (get_or table k []))
    → made ≡ all ++ next ∷ [] → AreMovesOf from order table made × (length made ≡ k + 1)
moves_more from order table all made next k are long fits made_is = (
  (λ j moves is.
      elim (slice_get-push all next j (Some moves) (ap (λ (l : List (Option Moving)). slice_get l j) (sym made_is) ∙ is)) [
        | inl old ↦ are j moves old.1
        | inr last ↦
            let of_steps : ℕ → Type 0 = λ n. IsMovesOf from order (get_or table n []) moves in
            let made_last : Option Moving → Type 0 = λ o. IfSome o (IsMovesOf from order (get_or table k [])) in
            subst of_steps (sym (last.0 ∙ long)) (subst made_last last.1 fits)
      ]),
  ap length made_is ∙ length-append all (next ∷ []) ∙ ap (λ n. n + 1) long,
)
