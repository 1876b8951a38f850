-- Writing step by step: what was written, followed by the rest.
use Rattle.std.proofs.Common.{◌≡◌, ◌≢◌, ℕ, zero, suc, ◌+◌, ◌-◌, ◌*◌, ◌<◌, ◌≤◌, pos, List, [], ◌∷◌, ◌++◌, length, get_or, drop}
use Rattle.std.proofs.Common.{Option, Some, None, refl, sym, ap, ◌∙◌, subst, arith}
use Rattle.std.specs.Prelude.{slice_get}
use Rattle.std.proofs.Math.Nat.{mul-le-mul_left}
use Rattle.evp_format.specs.Bytes.{put_at, next_block}
use Rattle.evp_format.specs.Datum.{Datum, num, null, text, list, rec}
use Rattle.evp_format.specs.Packing.{Piece, Pieces, Machine, then_pack, pointer_piece, pack_text, put_pieces}
use Rattle.evp_format.specs.Viewing.{Image}
use Rattle.evp_plan.specs.declared.step.Elements.{Elements}
use Rattle.evp_plan.specs.declared.step.Op.{Op}
use Rattle.evp_plan.specs.declared.step.Op.TheVariants.{Number, Text, Nest, Each, Many}
use Rattle.evp_plan.specs.declared.step.Part.{Part}
use Rattle.evp_plan.specs.declared.step.Part.TheVariants as part
use Rattle.evp_plan.specs.declared.step.Run.{Run}
use Rattle.evp_plan.specs.declared.step.Step.{Step}
use Rattle.evp_plan.specs.Moving.{moved_part, moved_elements, moved_many, moved_element, moved_count, moved_op, moved, source_place}
use Rattle.evp_plan.specs.Planned.{Planned, machine_in}
use Rattle.evp_plan.specs.Program.{Program, no_steps, performs, program_of, programs, program_at, IsOrdered}
use Rattle.evp_base.specs.Numbers.{digits}
use Rattle.evp_plan.specs.Ready.{AreElementsThere, IsReady}
use Rattle.evp_plan.specs.Sound.{IsSound}
use Rattle.evp_plan.specs.Standing.{origin_number, run_count}
use Rattle.evp_format.specs.Zero.{as_count}
use Rattle.evp_plan.proofs.Programs.{program_at-steps}
use Rattle.evp_runner.specs.Pieces.{IsPut}
use Rattle.evp_runner.specs.StepIn.{inside, CanMove, CanMoveStep, CanMoveList, CanMovePart, AreFew, IsElementThere, BeginsThere}
use Rattle.evp_runner.specs.StepIn.{IsCountThere, IsSourceThere}
use Rattle.evp_runner.proofs.Measured.{rest_of, no_rest}

pub put_pieces-append : (first rest : List Piece) (bytes : List ℕ)
    → put_pieces (first ++ rest) bytes ≡ put_pieces rest (put_pieces first bytes)
put_pieces-append [] rest bytes = refl
put_pieces-append (piece ∷ first) rest bytes = put_pieces-append first rest (put_at piece.at piece.bytes bytes)

-- ---- sizes grow

abbrev Grows : (ℕ → ℕ → ℕ → Pieces) → Type 0
Grows inside = (s t size : ℕ) → size ≤ (inside s t size).size

pub grows_elements : (one : ℕ → ℕ → Pieces) → ((k size : ℕ) → size ≤ (one k size).size) → (n k size : ℕ)
    → size ≤ (moved_elements one n k size).size
grows_elements one grows zero k size = omega arith
grows_elements one grows (suc n) k size =
    let first = grows k size in
    let rest = grows_elements one grows n (suc k) (one k size).size in
    omega (arith, first, rest)

grows_many : (machine : Machine) (t size n after : ℕ) (one : ℕ → ℕ → ℕ → Pieces) → ((k t' later : ℕ) → later ≤ (one k t' later).size)
    → after ≤ (moved_many machine t size n one after).size
grows_many machine t size zero after one grows = omega arith
grows_many machine t size (suc n) after one grows =
    let q = next_block after in
    let rest = grows_elements (λ k. one k (q + k * size)) (λ k later. grows k (q + k * size) later) (suc n) 0 (q + suc n * size) in
    omega (arith, rest)

grows_text : (machine : Machine) (t size : ℕ) (datum : Datum) → size ≤ (pack_text machine t datum size).size
grows_text machine t size (text bytes) = omega arith
grows_text machine t size null = omega arith
grows_text machine t size (num n) = omega arith
grows_text machine t size (list elements) = omega arith
grows_text machine t size (rec entries) = omega arith

pub grows_part : (image : Image) (machine : Machine) (size : ℕ) (p : Part) (inside : ℕ → ℕ → ℕ → Pieces) → Grows inside
    → (source : Option ℕ) (t after : ℕ) → after ≤ (moved_part image machine size p inside source t after).size
grows_part image machine size (part.Number kind from width) inside grows None t after = omega arith
grows_part image machine size (part.Number kind from width) inside grows (Some s) t after = omega arith
grows_part image machine size part.Text inside grows None t after = grows_text machine t after null
grows_part image machine size part.Text inside grows (Some s) t after = grows_text machine t after _
grows_part image machine size part.Record inside grows None t after = grows 0 t after
grows_part image machine size part.Record inside grows (Some s) t after = grows s t after

pub grows_op : (image : Image) (machine : Machine) (size : ℕ) (op : Op) (inside : ℕ → ℕ → ℕ → Pieces) → Grows inside → (at t after : ℕ)
    → after ≤ (moved_op image machine size op inside at t after).size
grows_op image machine size (Number kind origin) inside grows at t after = omega arith
grows_op image machine size (Text from) inside grows at t after = grows_text machine t after _
grows_op image machine size (Nest offset) inside grows at t after = grows (at + offset) t after
grows_op image machine size (Each count elements) inside grows at t after =
    grows_elements (λ k. moved_element image machine size elements inside at k (t + k * size))
    (λ k later. grows_part image machine size elements.part inside grows (source_place image at elements.run k) (t + k * size) later)
    (moved_count image at count elements.run) 0 after
grows_op image machine size (Many origin elements) inside grows at t after =
    grows_many machine t size (moved_count image at (as_count (origin_number image at origin)) elements.run) after
    (λ k. moved_element image machine size elements inside at k)
    (λ k t' later. grows_part image machine size elements.part inside grows (source_place image at elements.run k) t' later)

pub grows_moved : (image : Image) (machine : Machine) (program : Program) (at t after : ℕ)
    → after ≤ (moved image machine program at t after).size
grows_moved image machine no_steps at t after = omega arith
grows_moved image machine (performs task inner rest) at t after =
    let first = moved_op image machine task.size task.op (λ s t' later. moved image machine inner s t' later) at (t + task.offset) after in
    let one = grows_op image machine task.size task.op (λ s t' later. moved image machine inner s t' later)
    (λ s t' later. grows_moved image machine inner s t' later) at (t + task.offset) after in
    let more = grows_moved image machine rest at t first.size in
    omega (arith, one, more)

-- ---- lists of steps

abbrev pub step_moved : Planned → Image → Step → ℕ → ℕ → ℕ → Pieces
step_moved plan image step at t size =
    moved_op image (machine_in plan) step.task.size step.task.op (λ s t' later. moved image (machine_in plan) (inside plan step) s t' later)
    at (t + step.task.offset) size

abbrev pub rest_moved : Planned → Image → List Step → ℕ → ℕ → ℕ → Pieces
rest_moved plan image steps at t size = moved image (machine_in plan) (program_of (programs plan.table) steps) at t size

-- what is still to be written makes the whole
pub record IsMoving (rest whole : Pieces) (out start : List ℕ) : Type 0 where
  pub sized : rest.size ≡ whole.size
  pub put : put_pieces rest.all out ≡ put_pieces whole.all start

step_then : (plan : Planned) (image : Image) (steps : List Step) (k : ℕ) (step : Step) (at t size : ℕ) → step ≡ get_or steps k step
    → k < length steps
    → rest_moved plan image (drop k steps) at t size ≡ then_pack (step_moved plan image step at t size)
    (λ later. rest_moved plan image (drop (k + 1) steps) at t later)
step_then plan image steps k step at t size is below = ap (λ (s : List Step). rest_moved plan image s at t size)
    (rest_of steps k step below is)

pub step_fits : (plan : Planned) (image : Image) (steps : List Step) (k : ℕ) (step : Step) (at t size : ℕ) (whole : Pieces)
    (out start : List ℕ) (n : ℕ) → step ≡ get_or steps k step → k < length steps
    → IsMoving (rest_moved plan image (drop k steps) at t size) whole out start → whole.size ≤ n
    → (step_moved plan image step at t size).size ≤ n
step_fits plan image steps k step at t size whole out start n is below moving fits =
    let then_is = ap (λ (p : Pieces). p.size) (step_then plan image steps k step at t size is below) in
    let more = grows_moved image (machine_in plan) (program_of (programs plan.table) (drop (k + 1) steps)) at t
    (step_moved plan image step at t size).size in
    let sized = moving.sized in
    omega (arith, then_is, more, sized, fits)

then_moving : (first : Pieces) (rest : ℕ → Pieces) (whole : Pieces) (size : ℕ) (out out' start : List ℕ) → IsPut first size out out'
    → IsMoving (then_pack first rest) whole out start → IsMoving (rest size) whole out' start
then_moving first rest whole size out out' start put moving =
    let same : rest size ≡ rest first.size = ap rest put.sized in
    record {
      sized = ap (λ (p : Pieces). p.size) same ∙ moving.sized;
      put =
          ap (λ (p : Pieces). put_pieces p.all out') same ∙ ap (put_pieces (rest first.size).all) put.put
          ∙ sym (put_pieces-append first.all (rest first.size).all out) ∙ moving.put;
    }

pub step_next : (plan : Planned) (image : Image) (steps : List Step) (k : ℕ) (step : Step) (at t size after : ℕ) (whole : Pieces)
    (out out' start : List ℕ) → step ≡ get_or steps k step → k < length steps
    → IsPut (step_moved plan image step at t size) after out out'
    → IsMoving (rest_moved plan image (drop k steps) at t size) whole out start
    → IsMoving (rest_moved plan image (drop (k + 1) steps) at t after) whole out' start
step_next plan image steps k step at t size after whole out out' start is below put moving =
    let P : Pieces → Type 0 = λ p. IsMoving p whole out start in
    then_moving (step_moved plan image step at t size) (λ later. rest_moved plan image (drop (k + 1) steps) at t later) whole after out out'
    start put (subst P (step_then plan image steps k step at t size is below) moving)

pub moving_end : (size : ℕ) (rest whole : Pieces) (out start : List ℕ) → rest ≡ record { all = []; size = size }
    → IsMoving rest whole out start → IsPut whole size start out
moving_end size rest whole out start none moving =
    record {
      sized = sym (ap (λ (p : Pieces). p.size) none) ∙ moving.sized;
      put = sym (ap (λ (p : Pieces). put_pieces p.all out) none)
          ∙ moving.put;
    }

pub steps_end : (plan : Planned) (image : Image) (steps : List Step) (k at t size : ℕ) → length steps ≤ k
    → rest_moved plan image (drop k steps) at t size ≡ record { all = []; size = size }
steps_end plan image steps k at t size past = ap (λ (s : List Step). rest_moved plan image s at t size) (no_rest steps k past)

-- the record of list n is the record of its steps
pub record_moved : (plan : Planned) (image : Image) (n : ℕ) (steps : List Step) (at t size : ℕ) → IsOrdered plan.table
    → slice_get plan.table n ≡ Some steps
    → moved image (machine_in plan) (program_at plan.table n) at t size ≡ rest_moved plan image steps at t size
record_moved plan image n steps at t size ordered found = ap (λ (p : Program). moved image (machine_in plan) p at t size)
    (program_at-steps plan.table n steps ordered found)

each_can_move : (plan : Planned) (image : Image) (steps : List Step) (at t n levels length : ℕ)
    → IsReady image (program_of (programs plan.table) steps) at
    → IsSound plan.pointer (program_of (programs plan.table) steps) levels length
    → t + length ≤ n → (k : ℕ) (step : Step) → slice_get steps k ≡ Some step → CanMoveStep plan image step at t n
each_can_move plan image [] at t n levels length ready sound room k step found = cc
each_can_move plan image (first ∷ steps) at t n levels length ready sound room zero step found =
    let same : first ≡ step = cc in
    let Can : Step → Type 0 = λ s. CanMoveStep plan image s at t n in
    subst Can same (record { ready = ready.0; levels = levels - 1; length = length; sound = sound.1; room = room })
each_can_move plan image (first ∷ steps) at t n levels length ready sound room (suc k) step found = each_can_move plan image steps at t n
    levels length ready.1 sound.2 room k step found

pub can_move_each : (plan : Planned) (image : Image) (number : ℕ) (steps : List Step) (at t n n' : ℕ) → IsOrdered plan.table
    → slice_get plan.table number ≡ Some steps → n ≡ n' → CanMove plan image (program_at plan.table number) at t n
    → (k : ℕ) (step : Step) → slice_get steps k ≡ Some step → CanMoveStep plan image step at t n'
can_move_each plan image number steps at t n n' ordered found same can =
    let program = program_at-steps plan.table number steps ordered found in
    let Ready : Program → Type 0 = λ p. IsReady image p at in
    let Sound : Program → Type 0 = λ p. IsSound plan.pointer p can.levels can.length in
    let room = can.room in
    each_can_move plan image steps at t n' can.levels can.length (subst Ready program can.ready) (subst Sound program can.sound)
    (omega (arith, room, same))

-- ---- elements

element_then : (one : ℕ → ℕ → Pieces) (n k size : ℕ) → k < n → moved_elements one (n - k) k size
    ≡ then_pack (one k size) (λ later. moved_elements one (n - (k + 1)) (k + 1) later)
element_then one n k size below =
    let more : n - k ≡ suc (n - (k + 1)) = omega (arith, below) in
    let next : suc k ≡ k + 1 = omega arith in
    ap (λ (m : ℕ). moved_elements one m k size) more
    ∙ ap (λ (j : ℕ). then_pack (one k size) (λ later. moved_elements one (n - (k + 1)) j later)) next

pub element_fits : (one : ℕ → ℕ → Pieces) → ((k size : ℕ) → size ≤ (one k size).size)
    → (n k size : ℕ) (whole : Pieces) (out start : List ℕ) (total : ℕ) → k < n
    → IsMoving (moved_elements one (n - k) k size) whole out start
    → whole.size ≤ total → (one k size).size ≤ total
element_fits one grows n k size whole out start total below moving fits =
    let then_is = ap (λ (p : Pieces). p.size) (element_then one n k size below) in
    let more = grows_elements one grows (n - (k + 1)) (k + 1) (one k size).size in
    let sized = moving.sized in
    omega (arith, then_is, more, sized, fits)

pub element_moved : (one : ℕ → ℕ → Pieces) (n k size after : ℕ) (whole : Pieces) (out out' start : List ℕ) → k < n
    → IsPut (one k size) after out out' → IsMoving (moved_elements one (n - k) k size) whole out start
    → IsMoving (moved_elements one (n - (k + 1)) (k + 1) after) whole out' start
element_moved one n k size after whole out out' start below put moving =
    let P : Pieces → Type 0 = λ p. IsMoving p whole out start in
    then_moving (one k size) (λ later. moved_elements one (n - (k + 1)) (k + 1) later) whole after out out' start put
    (subst P (element_then one n k size below) moving)

pub elements_end : (one : ℕ → ℕ → Pieces) (n k size : ℕ) → n ≤ k → moved_elements one (n - k) k size ≡ record { all = []; size = size }
elements_end one n k size past = let none : n - k ≡ 0 = omega (arith, past) in ap (λ (m : ℕ). moved_elements one m k size) none

-- an element of a list can be written
source_there : (plan : Planned) (image : Image) (step : Step) (p : Part) (at n k : ℕ) (run : Option Run)
    → AreElementsThere image at p (λ s. IsReady image (inside plan step) s) run → AreFew image at n run → k < n
    → IsSourceThere plan image step p (source_place image at run k)
source_there plan image step p at n k None ready few below = ready
source_there plan image step p at n k (Some run) ready few below =
    let low : k < run_count image at run = omega (arith, few, below) in
    (ready.within k low, ready.each k low)

pub can_move_part : (plan : Planned) (image : Image) (step : Step) (elements : Elements) (at n k : ℕ) (source : Option ℕ)
    → CanMoveList plan image step elements at → AreFew image at n elements.run → k < n
    → source ≡ source_place image at elements.run k → CanMovePart plan image step elements.part source
can_move_part plan image step elements at n k source can few below is =
    let There : Option ℕ → Type 0 = λ o. IsSourceThere plan image step elements.part o in
    record {
      ready = subst There (sym is) (source_there plan image step elements.part at n k elements.run can.ready few below);
      levels = can.levels;
      sound = can.sound;
    }

run_element : (plan : Planned) (image : Image) (step : Step) (p : Part) (at n k : ℕ) (run : Option Run)
    → AreElementsThere image at p (λ s. IsReady image (inside plan step) s) run → AreFew image at n run → k < n
    → IsElementThere image at k run
run_element plan image step p at n k None ready few below = tt
run_element plan image step p at n k (Some run) ready few below =
    let low : k < run_count image at run = omega (arith, few, below) in
    (ready.begins, ready.within k low)

pub element_there : (plan : Planned) (image : Image) (step : Step) (elements : Elements) (at n k : ℕ)
    → CanMoveList plan image step elements at → AreFew image at n elements.run → k < n → IsElementThere image at k elements.run
element_there plan image step elements at n k can few below = run_element plan image step elements.part at n k elements.run can.ready few
    below

pub begins_there : (plan : Planned) (image : Image) (step : Step) (elements : Elements) (at : ℕ) → CanMoveList plan image step elements at
    → BeginsThere image at elements.run
begins_there plan image step elements at can = by elements.run can.ready
  where
    by : (run : Option Run) → AreElementsThere image at elements.part (λ s. IsReady image (inside plan step) s) run
        → BeginsThere image at run
    by None ready = tt
    by (Some run) ready = ready.begins

pub count_there : (plan : Planned) (image : Image) (step : Step) (elements : Elements) (at : ℕ) → CanMoveList plan image step elements at
    → IsCountThere image at elements.run
count_there plan image step elements at can = counted elements.run can.ready
  where
    counted : (run : Option Run) → AreElementsThere image at elements.part (λ s. IsReady image (inside plan step) s) run
        → IsCountThere image at run
    counted None ready = tt
    counted (Some run) ready = ready.counted

pub few_of : (image : Image) (at w n : ℕ) (run : Option Run) → n ≡ moved_count image at w run → AreFew image at n run
few_of image at w n None is = tt
few_of image at w n (Some run) is = omega (arith, is)

-- at most as many as are wanted
pub most_of : (image : Image) (at w n : ℕ) (run : Option Run) → n ≡ moved_count image at w run → n ≤ w
most_of image at w n None is = omega (arith, is)
most_of image at w n (Some run) is = omega (arith, is)

-- an element's end, in n from a base on
pub element_room : (base size n k last : ℕ) → k < n → base + n * size ≤ last → base + k * size + size ≤ last
element_room base size n k last below fits =
    let more = mul-le-mul_left size (let b : suc k ≤ n = omega (arith, below) in b) in
    omega (arith, fits, more)

-- ---- counted arrays

abbrev pub element_one : Planned → Image → Step → Elements → ℕ → ℕ → ℕ → ℕ → Pieces
element_one plan image step elements at base k size =
    moved_element image (machine_in plan) step.task.size elements
    (λ s t' later. moved image (machine_in plan) (inside plan step) s t' later) at k (base + k * step.task.size) size

pub one_grows : (plan : Planned) (image : Image) (step : Step) (elements : Elements) (at base k size : ℕ)
    → size ≤ (element_one plan image step elements at base k size).size
one_grows plan image step elements at base k size =
    grows_part image (machine_in plan) step.task.size elements.part
    (λ s t' later. moved image (machine_in plan) (inside plan step) s t' later)
    (λ s t' later. grows_moved image (machine_in plan) (inside plan step) s t' later)
    (source_place image at elements.run k) (base + k * step.task.size) size

abbrev pub list_moved : Planned → Image → Step → Elements → ℕ → ℕ → ℕ → ℕ → Pieces
list_moved plan image step elements at base n size =
    moved_elements (λ k. moved_element image (machine_in plan) step.task.size elements
    (λ s t' later. moved image (machine_in plan) (inside plan step) s t' later) at k (base + k * step.task.size)) n 0 size

abbrev pub many_moved : Planned → Image → Step → Elements → ℕ → ℕ → ℕ → ℕ → Pieces
many_moved plan image step elements at t n size =
    moved_many (machine_in plan) t step.task.size n (λ k. moved_element image (machine_in plan) step.task.size elements
    (λ s t' later. moved image (machine_in plan) (inside plan step) s t' later) at k) size

many_some : (plan : Planned) (image : Image) (step : Step) (elements : Elements) (at t n size : ℕ) → n ≢ 0
    → many_moved plan image step elements at t n size
    ≡ then_pack (pointer_piece (machine_in plan) t (next_block size) (next_block size + n * step.task.size))
    (λ later. list_moved plan image step elements at (next_block size) n later)
many_some plan image step elements at t zero size some = absurd (some refl)
many_some plan image step elements at t (suc n) size some = refl

pub list_grows : (plan : Planned) (image : Image) (step : Step) (elements : Elements) (at base n size : ℕ)
    → size ≤ (list_moved plan image step elements at base n size).size
list_grows plan image step elements at base n size =
    grows_elements (element_one plan image step elements at base) (λ k later. one_grows plan image step elements at base k later) n 0 size

-- what fits behind the block of a counted array
pub record ManyFits (plan : Planned) (image : Image) (step : Step) (elements : Elements) (at n size total : ℕ) : Type 0 where
  pub block : next_block size + n * step.task.size ≤ total
  pub list : (list_moved plan image step elements at (next_block size) n (next_block size + n * step.task.size)).size ≤ total

pub many_fits : (plan : Planned) (image : Image) (step : Step) (elements : Elements) (at t w n size total : ℕ)
    → n ≡ moved_count image at w elements.run → n ≢ 0
    → (many_moved plan image step elements at t (moved_count image at w elements.run) size).size ≤ total
    → ManyFits plan image step elements at n size total
many_fits plan image step elements at t w n size total is some fits =
    let same = ap (λ (m : ℕ). (many_moved plan image step elements at t m size).size) is in
    let split = ap (λ (p : Pieces). p.size) (many_some plan image step elements at t n size some) in
    let grows = list_grows plan image step elements at (next_block size) n (next_block size + n * step.task.size) in
    record { block = omega (arith, same, split, grows, fits); list = omega (arith, same, split, fits) }

pub many_put : (plan : Planned) (image : Image) (step : Step) (elements : Elements) (at t w n size q end after : ℕ)
    (out out' out'' : List ℕ) → n ≡ moved_count image at w elements.run → n ≢ 0 → q ≡ next_block size
    → end ≡ next_block size + n * step.task.size → out' ≡ put_at t (digits plan.order plan.pointer (pos q)) out
    → IsPut (list_moved plan image step elements at q n end) after out' out''
    → IsPut (many_moved plan image step elements at t (moved_count image at w elements.run) size) after out out''
many_put plan image step elements at t w n size q end after out out' out'' is some q_is end_is pointed put =
    let List_put : ℕ → ℕ → Type 0 = λ base e. IsPut (list_moved plan image step elements at base n e) after out' out'' in
    let here : IsPut (list_moved plan image step elements at (next_block size) n (next_block size + n * step.task.size)) after out' out'' =
    subst (λ (b : ℕ). List_put b (next_block size + n * step.task.size)) q_is (subst (List_put q) end_is put) in
    let first = pointer_piece (machine_in plan) t (next_block size) (next_block size + n * step.task.size) in
    let whole : many_moved plan image step elements at t (moved_count image at w elements.run) size
    ≡ then_pack first (λ later. list_moved plan image step elements at (next_block size) n later) =
    ap (λ (m : ℕ). many_moved plan image step elements at t m size) (sym is) ∙ many_some plan image step elements at t n size some in
    let pointer_is : out' ≡ put_pieces first.all out = pointed ∙ ap (λ (b : ℕ). put_at t (digits plan.order plan.pointer (pos b)) out) q_is
    in
    let P : Pieces → Type 0 = λ p. IsPut p after out out'' in
    subst P (sym whole)
    (record {
      sized = here.sized;
      put = here.put
          ∙ ap (put_pieces (list_moved plan image step elements at (next_block size) n (next_block size + n * step.task.size)).all)
          pointer_is;
    })
