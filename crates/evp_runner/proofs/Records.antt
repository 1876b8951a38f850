-- Records of an array, each made by the same gathers.
use Rattle.std.proofs.Common.{◌≡◌, ℕ, zero, suc, ◌+◌, ◌*◌, ◌<◌, ◌≤◌, List, [], length, get_or, Option, Some}
use Rattle.std.proofs.Common.{refl, sym, ap, ◌∙◌, subst, arith}
use Rattle.std.specs.Prelude.{slice_get}
use Rattle.evp_base.proofs.Digits.{AreBytes}
use Rattle.evp_format.specs.Packing.{Pieces, put_pieces}
use Rattle.evp_format.specs.Viewing.{Image}
use Rattle.evp_plan.specs.declared.cell.Cell.{Cell}
use Rattle.evp_plan.specs.declared.step.Elements.{Elements}
use Rattle.evp_plan.specs.declared.step.Part.{Part}
use Rattle.evp_plan.specs.declared.step.Part.TheVariants as part
use Rattle.evp_plan.specs.declared.step.Run.{Run}
use Rattle.evp_plan.specs.declared.step.Step.{Step}
use Rattle.evp_plan.specs.Cells.{Moving, painted_at, painted_each}
use Rattle.evp_plan.specs.Moving.{moved, moved_part, moved_elements, source_place}
use Rattle.evp_plan.specs.Planned.{Planned, machine_in}
use Rattle.evp_plan.specs.Program.{inner_program, programs, program_at}
use Rattle.evp_plan.specs.Ready.{AreElementsThere, IsRunThere, IsStartThere, IsReady}
use Rattle.evp_plan.specs.Sound.{IsSoundPart, IsSound}
use Rattle.evp_plan.specs.Standing.{run_start, run_count, element_place}
use Rattle.evp_plan.proofs.Painting.{length-painted_at}
use Rattle.evp_runner.specs.Pieces.{IsPut}
use Rattle.evp_runner.specs.StepIn.{inside, CanMove, CanMoveList, AreFew, AreRecordMoves}
use Rattle.evp_runner.proofs.Measured.{at_index}
use Rattle.evp_runner.proofs.Moved.{put_pieces-append, list_moved, element_room}
use Rattle.evp_runner.proofs.Painting.{paints, paints_reach, paints_cells, paints_put}

-- ---- any pieces that are painted one after another

-- painting element k is what its piece puts, on any bytes of this length
abbrev Paints_each : List ℕ → ℕ → ℕ → ℕ → ℕ → List Cell → (ℕ → ℕ → Pieces) → ℕ → ℕ → Type 0
Paints_each from first stride base width cells one total long =
    (k later : ℕ) (out : List ℕ) → k < total → length out ≡ long
    → (painted_at from (first + k * stride) (base + k * width) cells out ≡ put_pieces (one k later).all out)
    × (later ≡ (one k later).size)

next_place : (k size : ℕ) → suc k * size ≡ k * size + size
next_place k size = omega arith

painted_pieces : (from : List ℕ) (first stride base width : ℕ) (cells : List Cell) (one : ℕ → ℕ → Pieces) (total long n k after : ℕ)
    (out : List ℕ) → Paints_each from first stride base width cells one total long → k + n ≤ total → length out ≡ long
    → (painted_each from (first + k * stride) stride (base + k * width) width n cells out
    ≡ put_pieces (moved_elements one n k after).all out)
    × (after ≡ (moved_elements one n k after).size)
painted_pieces from first stride base width cells one total long zero k after out each few whole = (refl, refl)
painted_pieces from first stride base width cells one total long (suc n) k after out each few whole =
    let here = each k after out (omega (arith, few)) whole in
    let painted = painted_at from (first + k * stride) (base + k * width) cells out in
    let strides = next_place k stride in
    let widths = next_place k width in
    let next : first + k * stride + stride ≡ first + suc k * stride = omega (arith, strides) in
    let next' : base + k * width + width ≡ base + suc k * width = omega (arith, widths) in
    let rest = painted_pieces from first stride base width cells one total long n (suc k) (one k after).size painted each
    (omega (arith, few)) (length-painted_at from (first + k * stride) (base + k * width) cells out ∙ whole) in (
      ap (λ (a : ℕ). painted_each from a stride (base + k * width + width) width n cells painted) next
          ∙ ap (λ (b : ℕ). painted_each from (first + suc k * stride) stride b width n cells painted) next' ∙ rest.0
          ∙ ap (put_pieces (moved_elements one n (suc k) (one k after).size).all) here.0
          ∙ sym (put_pieces-append (one k after).all (moved_elements one n (suc k) (one k after).size).all out),
      here.1 ∙ rest.1,
    )

-- ---- records of the sender's array

-- record k can be made at its place
can_record : (plan : Planned) (image : Image) (step : Step) (elements : Elements) (run : Run) (moves : Moving) (at base n k total : ℕ)
    → (r : AreRecordMoves plan image step elements moves) → elements.run ≡ Some run → CanMoveList plan image step elements at
    → AreFew image at n elements.run → base + n * step.task.size ≤ total → k < n
    → CanMove plan image (program_at plan.table r.number) (element_place image at run k) (base + k * step.task.size) total
can_record plan image step elements run moves at base n k total r run_is can few room below =
    let Ready : Part → Type 0 = λ p. AreElementsThere image at p (λ s. IsReady image (inside plan step) s) elements.run in
    let Ready' : Option Run → Type 0 = λ o. AreElementsThere image at part.Record (λ s. IsReady image (inside plan step) s) o in
    let there : IsRunThere image at part.Record (λ s. IsReady image (inside plan step) s) run =
    subst Ready' run_is (subst Ready r.part_is can.ready) in
    let most : n ≤ run_count image at run = subst (λ (o : Option Run). AreFew image at n o) run_is few in
    let Sound : Part → Type 0 = λ p. IsSoundPart plan.pointer step.task.size p
    (λ size. IsSound plan.pointer (inside plan step) can.levels size) in
    let Can : Option ℕ → Type 0 = λ inner. CanMove plan image (inner_program (programs plan.table) inner) (element_place image at run k)
    (base + k * step.task.size) total in
    subst Can r.inner_is
    (record {
      ready = there.each k (omega (arith, below, most));
      levels = can.levels;
      length = step.task.size;
      sound = (subst Sound r.part_is can.sound).1;
      room = element_room base step.task.size n k total below room;
    })

-- its place is inside the bytes
record_inside : (plan : Planned) (image : Image) (step : Step) (elements : Elements) (run : Run) (at n k : ℕ)
    → elements.run ≡ Some run → CanMoveList plan image step elements at → AreFew image at n elements.run → k < n
    → element_place image at run k ≤ length image.bytes
record_inside plan image step elements run at n k run_is can few below =
    let Ready : Option Run → Type 0 = λ o. AreElementsThere image at elements.part (λ s. IsReady image (inside plan step) s) o in
    let there : IsRunThere image at elements.part (λ s. IsReady image (inside plan step) s) run = subst Ready run_is can.ready in
    let most : n ≤ run_count image at run = subst (λ (o : Option Run). AreFew image at n o) run_is few in
    there.within k (omega (arith, below, most))

pub run_begins : (plan : Planned) (image : Image) (step : Step) (elements : Elements) (run : Run) (at : ℕ)
    → elements.run ≡ Some run → CanMoveList plan image step elements at → IsStartThere image run.pointed (at + run.offset)
run_begins plan image step elements run at run_is can =
    let Ready : Option Run → Type 0 = λ o. AreElementsThere image at elements.part (λ s. IsReady image (inside plan step) s) o in
    let there : IsRunThere image at elements.part (λ s. IsReady image (inside plan step) s) run = subst Ready run_is can.ready in
    there.begins

inner_below : (table : List (List Step)) (n : ℕ) → n < length table → slice_get table n ≡ Some (get_or table n [])
inner_below table n below = at_index table n [] below

pub records_reach : (plan : Planned) (image : Image) (step : Step) (elements : Elements) (run : Run) (moves : Moving) (at base n total : ℕ)
    → (r : AreRecordMoves plan image step elements moves) → r.number < length plan.table → elements.run ≡ Some run
    → CanMoveList plan image step elements at → AreFew image at n elements.run → base + n * step.task.size ≤ total
    → (k : ℕ) → k < n → element_place image at run k + moves.reach ≤ length image.bytes
records_reach plan image step elements run moves at base n total r low run_is can few room k below =
    let here = can_record plan image step elements run moves at base n k total r run_is can few room below in
    let p = paints plan image r.number (get_or plan.table r.number []) moves (element_place image at run k) (base + k * step.task.size)
    total r.ordered (inner_below plan.table r.number low) r.are here in
    paints_reach plan image r.number moves (element_place image at run k) (base + k * step.task.size) p
    (record_inside plan image step elements run at n k run_is can few below)

pub records_room : (plan : Planned) (image : Image) (step : Step) (elements : Elements) (run : Run) (moves : Moving) (at base n total : ℕ)
    → (r : AreRecordMoves plan image step elements moves) → r.number < length plan.table → elements.run ≡ Some run
    → CanMoveList plan image step elements at → AreFew image at n elements.run → base + n * step.task.size ≤ total
    → (k : ℕ) → k < n → base + k * step.task.size + length moves.cells ≤ total
records_room plan image step elements run moves at base n total r low run_is can few room k below =
    let here = can_record plan image step elements run moves at base n k total r run_is can few room below in
    let p = paints plan image r.number (get_or plan.table r.number []) moves (element_place image at run k) (base + k * step.task.size)
    total r.ordered (inner_below plan.table r.number low) r.are here in
    paints_cells plan image r.number moves (element_place image at run k) (base + k * step.task.size) total p here

pub records_put : (plan : Planned) (image : Image) (step : Step) (elements : Elements) (run : Run) (moves : Moving) (at base n size : ℕ)
    (out out' : List ℕ) → (r : AreRecordMoves plan image step elements moves) → r.number < length plan.table
    → elements.run ≡ Some run → CanMoveList plan image step elements at → AreFew image at n elements.run → AreBytes image.bytes
    → base + n * step.task.size ≤ length out
    → out' ≡ painted_each image.bytes (run_start image at run) run.stride base step.task.size n moves.cells out
    → IsPut (list_moved plan image step elements at base n size) size out out'
records_put plan image step elements run moves at base n size out out' r low run_is can few are room painted_is =
    let machine = machine_in plan in
    let width = step.task.size in
    let first = run_start image at run in
    let one_by : Option ℕ → ℕ → ℕ → Pieces = λ inner k later.
    moved image machine (inner_program (programs plan.table) inner) (element_place image at run k) (base + k * width) later in
    let each : Paints_each image.bytes first run.stride base width moves.cells (one_by (Some r.number)) n (length out) =
    λ k later out'' below long.
    (let here = can_record plan image step elements run moves at base n k (length out'') r run_is can few
    (omega (arith, room, long)) below in
    let p = paints plan image r.number (get_or plan.table r.number []) moves (element_place image at run k) (base + k * width)
    (length out'') r.ordered (inner_below plan.table r.number low) r.are here in
    let put = paints_put plan image r.number moves (element_place image at run k) (base + k * width) later out''
    (painted_at image.bytes (first + k * run.stride) (base + k * width) moves.cells out'') p here are refl in
    (put.put, put.sized)) in
    let all = painted_pieces image.bytes first run.stride base width moves.cells (one_by (Some r.number)) n (length out) n 0 size out each
    (omega arith) refl in
    let start : first + 0 * run.stride ≡ first = omega arith in
    let to : base + 0 * width ≡ base = omega arith in
    let painted : painted_each image.bytes first run.stride base width n moves.cells out
    ≡ put_pieces (moved_elements (one_by (Some r.number)) n 0 size).all out =
    sym (ap (λ (a : ℕ). painted_each image.bytes a run.stride (base + 0 * width) width n moves.cells out) start
    ∙ ap (λ (b : ℕ). painted_each image.bytes first run.stride b width n moves.cells out) to) ∙ all.0 in
    let inside_by : Option ℕ → ℕ → ℕ → ℕ → Pieces = λ inner s' t' later.
    moved image machine (inner_program (programs plan.table) inner) s' t' later in
    let Put : Part → Option Run → Option ℕ → Type 0 = λ p o inner.
    IsPut (moved_elements (λ k later. moved_part image machine width p (inside_by inner) (source_place image at o k)
    (base + k * width) later) n 0 size) size out out' in
    let records : Put part.Record (Some run) (Some r.number) = record { sized = all.1; put = painted_is ∙ painted } in
    subst (λ (p : Part). Put p elements.run step.inner) (sym r.part_is)
    (subst (λ (o : Option Run). Put part.Record o step.inner) (sym run_is)
    (subst (λ (inner : Option ℕ). Put part.Record (Some run) inner) (sym r.inner_is) records))
