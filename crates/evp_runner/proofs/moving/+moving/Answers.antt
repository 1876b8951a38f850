use Rattle.std.proofs.Common.{◌∙◌, ℕ, ◌+◌, ◌-◌, ◌*◌, ◌≤◌, length, Option, ap, sym, subst, refl, arith}
use Rattle.std.proofs.Math.Nat.{mul-le-mul_left}
use Rattle.evp_format.specs.Bytes.{next_block}
use Rattle.evp_format.specs.Packing.{Pieces}
use Rattle.evp_format.specs.Zero.{as_count}
use Rattle.evp_plan.specs.declared.step.Op.{Op}
use Rattle.evp_plan.specs.Moving.{moved, moved_op, moved_part, moved_count, moved_elements}
use Rattle.evp_plan.specs.Planned.{machine_in}
use Rattle.evp_plan.specs.Ready.{IsOpThere, IsReady}
use Rattle.evp_plan.specs.Sound.{IsSoundOp, IsSound}
use Rattle.evp_plan.specs.Standing.{origin_number}
use Rattle.evp_runner.specs.Pieces.{IsPut}
use Rattle.evp_runner.specs.StepIn.{image_in, inside, AreRecordMoves}
use Rattle.evp_runner.proofs.Measured.{found_steps, at_index, own_index, some_bytes}
use Rattle.evp_runner.proofs.Moved.{begins_there, rest_moved, step_fits, step_next, moving_end, steps_end, record_moved, can_move_each}
use Rattle.evp_runner.proofs.Moved.{element_one, one_grows, element_fits, element_moved, elements_end, can_move_part, few_of, most_of}
use Rattle.evp_runner.proofs.Moved.{element_room}
use Rattle.evp_runner.proofs.Moved.{list_moved, many_fits, many_put}
use Rattle.evp_runner.proofs.SideBySide.{numbers_there, out_width, side_long, numbers_moved}
use Rattle.evp_runner.proofs.Records.{run_begins, records_reach, records_room, records_put}
use Rattle.evp_runner.proofs.Painting.{paints, paints_reach, paints_cells, paints_put}
use Rattle.evp_runner.proofs.moving.+moving.Goals as goal

pub move_each-move_part-size-requires : goal.move_each-move_part-size-requires
move_each-move_part-size-requires t c =
    let plan = c.args.work.now.plan.now in
    let image = image_in c.args.work.now.sender in
    let step = c.args.step.now in
    let elements = c.args.elements.now in
    let k = c.loop-k.k in
    let n = c.args.n in
    let one = element_one plan image step elements c.args.at c.args.base in
    let can = can_move_part plan image step elements c.args.at n k c.source_place-source.result c.requires.can c.requires.few
    c.loop-k-test.true c.source_place-source.ensures in
    let room = element_room c.args.base step.task.size n k (length c.args.out.now) c.loop-k-test.true c.requires.room in
    let fits =
    element_fits one (λ i later. one_grows plan image step elements c.args.at c.args.base i later) n k c.loop-k.size
    (list_moved plan image step elements c.args.at c.args.base n c.args.size) c.loop-k.out c.args.out.now
    (length c.args.out.now) c.loop-k-test.true c.loop-k.invariant c.requires.fits in
    let same = c.loop-k.auto.out in
    let Fits : Option ℕ → Type 0 = λ source.
    (moved_part image (machine_in plan) step.task.size elements.part
    (λ s t' later. moved image (machine_in plan) (inside plan step) s t' later) source (c.args.base + k * step.task.size)
    c.loop-k.size).size ≤ length c.args.out.now in
    let Within : ℕ → Type 0 = λ total.
    (moved_part image (machine_in plan) step.task.size elements.part
    (λ s t' later. moved image (machine_in plan) (inside plan step) s t' later) c.source_place-source.result
    (c.args.base + k * step.task.size) c.loop-k.size).size ≤ total in (
      omega arith,
      (
        c.requires.known,
        (
          c.requires.earlier,
          (can, (omega (arith, room, same), subst Within (sym same) (subst Fits (sym c.source_place-source.ensures) fits))),
        ),
      ),
    )

pub move_each-loop-k-preserved : goal.move_each-loop-k-preserved
move_each-loop-k-preserved t c =
    let plan = c.args.work.now.plan.now in
    let image = image_in c.args.work.now.sender in
    let step = c.args.step.now in
    let elements = c.args.elements.now in
    let k = c.loop-k.k in
    let one = element_one plan image step elements c.args.at c.args.base in
    let Put : Option ℕ → Type 0 = λ source.
    IsPut (moved_part image (machine_in plan) step.task.size elements.part
    (λ s t' later. moved image (machine_in plan) (inside plan step) s t' later) source (c.args.base + k * step.task.size) c.loop-k.size)
    c.move_part-size.result c.loop-k.out c.move_part-size.new.out in
    element_moved one c.args.n k c.loop-k.size c.move_part-size.result
    (list_moved plan image step elements c.args.at c.args.base c.args.n c.args.size) c.loop-k.out c.move_part-size.new.out
    c.args.out.now c.loop-k-test.true
    (subst Put c.source_place-source.ensures c.move_part-size.ensures) c.loop-k.invariant

pub move_each-returns : goal.move_each-returns
move_each-returns t c =
    let plan = c.args.work.now.plan.now in
    let image = image_in c.args.work.now.sender in
    let one = element_one plan image c.args.step.now c.args.elements.now c.args.at c.args.base in
    moving_end c.loop-k.size (moved_elements one (c.args.n - c.loop-k.k) c.loop-k.k c.loop-k.size)
    (list_moved plan image c.args.step.now c.args.elements.now c.args.at c.args.base c.args.n c.args.size) c.loop-k.out c.args.out.now
    (elements_end one c.args.n c.loop-k.k c.loop-k.size c.loop-k-test.false) c.loop-k.invariant

pub move_many-overflow_add-q : goal.move_many-overflow_add-q
move_many-overflow_add-q t c =
    let image = image_in c.args.work.now.sender in
    let w = as_count (origin_number image c.args.at c.args.origin.now) in
    let is = c.moved_count-n.ensures ∙ ap (λ (v : ℕ). moved_count image c.args.at v c.args.elements.now.run) c.count_from-wanted.ensures in
    let m = many_fits c.args.work.now.plan.now image c.args.step.now c.args.elements.now c.args.at c.args.t w c.moved_count-n.result
    c.args.size (length c.args.out.now) is c.if-n-eq0.false c.requires.fits in
    let block = m.block in
    omega (arith, block)

pub move_many-overflow_mul-q : goal.move_many-overflow_mul-q
move_many-overflow_mul-q t c =
    let image = image_in c.args.work.now.sender in
    let w = as_count (origin_number image c.args.at c.args.origin.now) in
    let is = c.moved_count-n.ensures ∙ ap (λ (v : ℕ). moved_count image c.args.at v c.args.elements.now.run) c.count_from-wanted.ensures in
    let m = many_fits c.args.work.now.plan.now image c.args.step.now c.args.elements.now c.args.at c.args.t w c.moved_count-n.result
    c.args.size (length c.args.out.now) is c.if-n-eq0.false c.requires.fits in
    let block = m.block in
    omega (arith, block)

pub move_many-overflow_cast-end : goal.move_many-overflow_cast-end
move_many-overflow_cast-end t c =
    let image = image_in c.args.work.now.sender in
    let w = as_count (origin_number image c.args.at c.args.origin.now) in
    let is = c.moved_count-n.ensures ∙ ap (λ (v : ℕ). moved_count image c.args.at v c.args.elements.now.run) c.count_from-wanted.ensures in
    let m = many_fits c.args.work.now.plan.now image c.args.step.now c.args.elements.now c.args.at c.args.t w c.moved_count-n.result
    c.args.size (length c.args.out.now) is c.if-n-eq0.false c.requires.fits in
    let block = m.block in
    let some = some_bytes c.args.work.now.plan.now.pointer c.args.step.now.task.size c.args.elements.now.part _ c.args.work.now.wide
    c.requires.can.sound in
    let more = mul-le-mul_left c.moved_count-n.result some in
    omega (arith, block, more)

pub move_many-overflow_mul-end : goal.move_many-overflow_mul-end
move_many-overflow_mul-end t c =
    let image = image_in c.args.work.now.sender in
    let w = as_count (origin_number image c.args.at c.args.origin.now) in
    let is = c.moved_count-n.ensures ∙ ap (λ (v : ℕ). moved_count image c.args.at v c.args.elements.now.run) c.count_from-wanted.ensures in
    let m = many_fits c.args.work.now.plan.now image c.args.step.now c.args.elements.now c.args.at c.args.t w c.moved_count-n.result
    c.args.size (length c.args.out.now) is c.if-n-eq0.false c.requires.fits in
    let block = m.block in
    omega (arith, block)

pub move_many-overflow_add-end : goal.move_many-overflow_add-end
move_many-overflow_add-end t c =
    let image = image_in c.args.work.now.sender in
    let w = as_count (origin_number image c.args.at c.args.origin.now) in
    let is = c.moved_count-n.ensures ∙ ap (λ (v : ℕ). moved_count image c.args.at v c.args.elements.now.run) c.count_from-wanted.ensures in
    let m = many_fits c.args.work.now.plan.now image c.args.step.now c.args.elements.now c.args.at c.args.t w c.moved_count-n.result
    c.args.size (length c.args.out.now) is c.if-n-eq0.false c.requires.fits in
    let block = m.block in
    omega (arith, block)

pub move_many-move_elements-requires : goal.move_many-move_elements-requires
move_many-move_elements-requires t c =
    let plan = c.args.work.now.plan.now in
    let image = image_in c.args.work.now.sender in
    let step = c.args.step.now in
    let elements = c.args.elements.now in
    let n = c.moved_count-n.result in
    let w = as_count (origin_number image c.args.at c.args.origin.now) in
    let is = c.moved_count-n.ensures ∙ ap (λ (v : ℕ). moved_count image c.args.at v elements.run) c.count_from-wanted.ensures in
    let m = many_fits plan image step elements c.args.at c.args.t w n c.args.size (length c.args.out.now) is c.if-n-eq0.false
    c.requires.fits in
    let block = m.block in
    let same = c.put_pointer-2.auto.out in
    let Within : ℕ
    → Type 0 = λ total. (list_moved plan image step elements c.args.at (next_block c.args.size) n
    (next_block c.args.size + n * step.task.size)).size ≤ total in (
      omega arith,
      (
        c.requires.known,
        (
          c.requires.at_inside,
          (
            c.requires.earlier,
            (c.requires.can, (few_of image c.args.at w n elements.run is, (omega (arith, block, same), subst Within (sym same) m.list))),
          ),
        ),
      ),
    )

pub move_many-returns : goal.move_many-returns
move_many-returns t c =
    let image = image_in c.args.work.now.sender in
    let n = c.moved_count-n.result in
    let w = as_count (origin_number image c.args.at c.args.origin.now) in
    let is = c.moved_count-n.ensures ∙ ap (λ (v : ℕ). moved_count image c.args.at v c.args.elements.now.run) c.count_from-wanted.ensures in
    many_put c.args.work.now.plan.now image c.args.step.now c.args.elements.now c.args.at c.args.t w n c.args.size (next_block c.args.size)
    (next_block c.args.size + n * c.args.step.now.task.size) c.move_elements.result c.args.out.now
    c.put_pointer-2.new.out c.move_elements.new.out is c.if-n-eq0.false refl refl c.put_pointer-2.ensures c.move_elements.ensures

pub move_record-run-requires-clause-reach : goal.move_record-run-requires-clause-reach
move_record-run-requires-clause-reach t c =
    let plan = c.args.work.now.plan.now in
    let image = image_in c.args.work.now.sender in
    let steps = c.as_slice-steps.result.now in
    let found = found_steps plan c.args.number c.table.result.now c.index-table-number.result steps c.table.ensures.value c.requires.known
    c.index-table-number.is c.as_slice-steps.ensures in
    let p = paints plan image c.args.number steps c.in-Some.moves.now c.args.at c.args.t (length c.args.out.now) c.table.ensures.ordered
    found c.in-Some.ensures c.requires.can in
    paints_reach plan image c.args.number c.in-Some.moves.now c.args.at c.args.t p c.requires.at_inside

pub move_record-run-requires-clause-room : goal.move_record-run-requires-clause-room
move_record-run-requires-clause-room t c =
    let plan = c.args.work.now.plan.now in
    let image = image_in c.args.work.now.sender in
    let steps = c.as_slice-steps.result.now in
    let found = found_steps plan c.args.number c.table.result.now c.index-table-number.result steps c.table.ensures.value c.requires.known
    c.index-table-number.is c.as_slice-steps.ensures in
    let p = paints plan image c.args.number steps c.in-Some.moves.now c.args.at c.args.t (length c.args.out.now) c.table.ensures.ordered
    found c.in-Some.ensures c.requires.can in
    paints_cells plan image c.args.number c.in-Some.moves.now c.args.at c.args.t (length c.args.out.now) p c.requires.can

pub move_record-returns-in-Some : goal.move_record-returns-in-Some
move_record-returns-in-Some t c =
    let plan = c.args.work.now.plan.now in
    let image = image_in c.args.work.now.sender in
    let steps = c.as_slice-steps.result.now in
    let found = found_steps plan c.args.number c.table.result.now c.index-table-number.result steps c.table.ensures.value c.requires.known
    c.index-table-number.is c.as_slice-steps.ensures in
    let p = paints plan image c.args.number steps c.in-Some.moves.now c.args.at c.args.t (length c.args.out.now) c.table.ensures.ordered
    found c.in-Some.ensures c.requires.can in
    paints_put plan image c.args.number c.in-Some.moves.now c.args.at c.args.t c.args.size c.args.out.now c.run.new.out p c.requires.can
    c.run.ensures.bytes c.run.ensures.made

pub move_record-move_step-size-requires : goal.move_record-move_step-size-requires
move_record-move_step-size-requires t c =
    let plan = c.args.work.now.plan.now in
    let image = image_in c.args.work.now.sender in
    let steps = c.as_slice-steps.result.now in
    let k = c.loop-step.step-index in
    let found = found_steps plan c.args.number c.table.result.now c.index-table-number.result steps c.table.ensures.value c.requires.known
    c.index-table-number.is c.as_slice-steps.ensures in
    let same = c.loop-step.auto.out in
    let whole = rest_moved plan image steps c.args.at c.args.t c.args.size in
    let Small : Pieces → Type 0 = λ p. p.size ≤ length c.args.out.now in
    let Small' : ℕ → Type 0 = λ total. whole.size ≤ total in
    let fits = subst Small' (sym same)
    (subst Small (record_moved plan image c.args.number steps c.args.at c.args.t c.args.size c.table.ensures.ordered found)
    c.requires.fits) in
    let can = can_move_each plan image c.args.number steps c.args.at c.args.t (length c.args.out.now) (length c.loop-step.out)
    c.table.ensures.ordered found (sym same) c.requires.can in (
      omega arith,
      (
        c.requires.known,
        (
          c.requires.at_inside,
          (
            λ m is. c.table.ensures.ordered c.args.number k m steps _ found (at_index steps k _ c.loop-step-test.true) is,
            (
              can k _ (at_index steps k _ c.loop-step-test.true),
              step_fits plan image steps k _ c.args.at c.args.t c.loop-step.size whole c.loop-step.out c.args.out.now
                  (length c.loop-step.out) (own_index steps k _ c.loop-step-test.true) c.loop-step-test.true c.loop-step.invariant fits,
            ),
          ),
        ),
      ),
    )

pub move_record-loop-step-preserved : goal.move_record-loop-step-preserved
move_record-loop-step-preserved t c =
    let plan = c.args.work.now.plan.now in
    let image = image_in c.args.work.now.sender in
    let steps = c.as_slice-steps.result.now in
    let k = c.loop-step.step-index in
    step_next plan image steps k _ c.args.at c.args.t c.loop-step.size c.move_step-size.result
    (rest_moved plan image steps c.args.at c.args.t c.args.size) c.loop-step.out c.move_step-size.new.out c.args.out.now
    (own_index steps k _ c.loop-step-test.true) c.loop-step-test.true c.move_step-size.ensures c.loop-step.invariant

pub move_record-returns : goal.move_record-returns
move_record-returns t c =
    let plan = c.args.work.now.plan.now in
    let image = image_in c.args.work.now.sender in
    let steps = c.as_slice-steps.result.now in
    let found = found_steps plan c.args.number c.table.result.now c.index-table-number.result steps c.table.ensures.value c.requires.known
    c.index-table-number.is c.as_slice-steps.ensures in
    let whole = rest_moved plan image steps c.args.at c.args.t c.args.size in
    let Put : Pieces → Type 0 = λ p. IsPut p c.loop-step.size c.args.out.now c.loop-step.out in
    subst Put (sym (record_moved plan image c.args.number steps c.args.at c.args.t c.args.size c.table.ensures.ordered found))
    (moving_end c.loop-step.size _ whole c.loop-step.out c.args.out.now
    (steps_end plan image steps c.loop-step.step-index c.args.at c.args.t c.loop-step.size c.loop-step-test.false)
    c.loop-step.invariant)

pub move_step-move_elements-requires : goal.move_step-move_elements-requires
move_step-move_elements-requires t c =
    let plan = c.args.work.now.plan.now in
    let image = image_in c.args.work.now.sender in
    let step = c.args.step.now in
    let elements = c.in-Each.elements in
    let n = c.moved_count-n.result in
    let is = c.moved_count-n.ensures ∙ ap (λ (v : ℕ). moved_count image c.args.at v elements.run) c.from.ensures in
    let Ready : Op → Type 0 = λ o. IsOpThere image c.args.at o (λ s. IsReady image (inside plan step) s) in
    let Sound : Op → Type 0 = λ o. IsSoundOp plan.pointer c.requires.can.length step.task.offset step.task.size o
    (λ size. IsSound plan.pointer (inside plan step) c.requires.can.levels size) in
    let Fits : Op → Type 0 = λ o.
    (moved_op image (machine_in plan) step.task.size o (λ s t' later. moved image (machine_in plan) (inside plan step) s t' later) c.args.at
    (c.args.t + step.task.offset) c.args.size).size ≤ length c.args.out.now in
    let Fits' : ℕ → Type 0 = λ m. (list_moved plan image step elements c.args.at (c.args.t + step.task.offset) m c.args.size).size ≤ length
    c.args.out.now in
    let sound = subst Sound c.in-Each.is c.requires.can.sound in
    let inside_record = sound.0 in
    let room = c.requires.can.room in
    let most = mul-le-mul_left step.task.size (most_of image c.args.at c.in-Each.count n elements.run is) in (
      omega arith,
      (
        c.requires.known,
        (
          c.requires.at_inside,
          (
            c.requires.earlier,
            (
              record { ready = subst Ready c.in-Each.is c.requires.can.ready; levels = c.requires.can.levels; sound = sound.1 },
              (
                few_of image c.args.at c.in-Each.count n elements.run is,
                (omega (arith, inside_record, room, most), subst Fits' (sym is) (subst Fits c.in-Each.is c.requires.fits)),
              ),
            ),
          ),
        ),
      ),
    )

pub move_step-returns-in-Many : goal.move_step-returns-in-Many
move_step-returns-in-Many t c =
    let plan = c.args.work.now.plan.now in
    let image = image_in c.args.work.now.sender in
    let step = c.args.step.now in
    let Put : Op → Type 0 = λ o.
    IsPut (moved_op image (machine_in plan) step.task.size o (λ s t' later. moved image (machine_in plan) (inside plan step) s t' later)
    c.args.at (c.args.t + step.task.offset) c.args.size) c.move_many.result c.args.out.now c.move_many.new.out in
    subst Put (sym c.in-Many.is) c.move_many.ensures

pub move_elements-side_by_side-requires-clause-there : goal.move_elements-side_by_side-requires-clause-there
move_elements-side_by_side-requires-clause-there t c =
    numbers_there c.args.work.now.plan.now (image_in c.args.work.now.sender) c.args.step.now c.args.elements.now c.args.at c.requires.can

pub move_elements-overflow_cast-n : goal.move_elements-overflow_cast-n
move_elements-overflow_cast-n t c =
    let some = some_bytes c.args.work.now.plan.now.pointer c.args.step.now.task.size c.args.elements.now.part _ c.args.work.now.wide
    c.requires.can.sound in
    let more = mul-le-mul_left c.args.n some in
    let room = c.requires.room in
    omega (arith, room, more)

pub move_each-overflow_cast-n : goal.move_each-overflow_cast-n
move_each-overflow_cast-n t c =
    let some = some_bytes c.args.work.now.plan.now.pointer c.args.step.now.task.size c.args.elements.now.part _ c.args.work.now.wide
    c.requires.can.sound in
    let more = mul-le-mul_left c.args.n some in
    let room = c.requires.room in
    omega (arith, room, more)

pub move_each-overflow_cast-k-end : goal.move_each-overflow_cast-k-end
move_each-overflow_cast-k-end t c =
    let some = some_bytes c.args.work.now.plan.now.pointer c.args.step.now.task.size c.args.elements.now.part _ c.args.work.now.wide
    c.requires.can.sound in
    let more = mul-le-mul_left c.args.n some in
    let room = c.requires.room in
    omega (arith, room, more)

pub move_elements-put_numbers-requires-clause-width : goal.move_elements-put_numbers-requires-clause-width
move_elements-put_numbers-requires-clause-width t c =
    let numbers = c.in-Some.numbers in
    out_width c.args.work.now.plan.now (image_in c.args.work.now.sender) c.args.step.now c.args.elements.now c.args.at c.args.n
    numbers.width numbers.kind numbers.bytes.now c.in-Some.ensures c.requires.can

pub move_elements-put_numbers-requires-clause-whole : goal.move_elements-put_numbers-requires-clause-whole
move_elements-put_numbers-requires-clause-whole t c =
    let numbers = c.in-Some.numbers in
    side_long (image_in c.args.work.now.sender) c.args.at c.args.n numbers.width c.args.elements.now numbers.kind numbers.bytes.now
    c.in-Some.ensures

pub move_elements-returns-in-Some : goal.move_elements-returns-in-Some
move_elements-returns-in-Some t c =
    let numbers = c.in-Some.numbers in
    numbers_moved c.args.work.now.plan.now (image_in c.args.work.now.sender) c.args.step.now c.args.elements.now c.args.at c.args.base
    c.args.n c.args.size numbers.width numbers.kind numbers.bytes.now c.args.out.now c.put_numbers.new.out c.in-Some.ensures c.requires.room
    c.put_numbers.ensures

pub move_each-first_place-first-requires-clause-there : goal.move_each-first_place-first-requires-clause-there
move_each-first_place-first-requires-clause-there t c =
    begins_there c.args.work.now.plan.now (image_in c.args.work.now.sender) c.args.step.now c.args.elements.now c.args.at c.requires.can

pub move_each-put_records-requires-clause-begins : goal.move_each-put_records-requires-clause-begins
move_each-put_records-requires-clause-begins t c =
    run_begins c.args.work.now.plan.now (image_in c.args.work.now.sender) c.args.step.now c.args.elements.now c.in-Some.run' c.args.at
    c.in-Some.is c.requires.can

pub move_each-put_records-requires-clause-reach : goal.move_each-put_records-requires-clause-reach
move_each-put_records-requires-clause-reach t c =
    let plan = c.args.work.now.plan.now in
    let image = image_in c.args.work.now.sender in
    let moves = c.in-Some-record_moves.moves.now in
    let r : AreRecordMoves plan image c.args.step.now c.args.elements.now moves = c.in-Some-record_moves.ensures in
    let low = c.requires.earlier r.number r.inner_is in
    let known = c.requires.known in
    records_reach plan image c.args.step.now c.args.elements.now c.in-Some.run' moves c.args.at c.args.base c.args.n
    (length c.args.out.now) r (omega (arith, low, known)) c.in-Some.is c.requires.can c.requires.few c.requires.room

pub move_each-put_records-requires-clause-room : goal.move_each-put_records-requires-clause-room
move_each-put_records-requires-clause-room t c =
    let plan = c.args.work.now.plan.now in
    let image = image_in c.args.work.now.sender in
    let moves = c.in-Some-record_moves.moves.now in
    let r : AreRecordMoves plan image c.args.step.now c.args.elements.now moves = c.in-Some-record_moves.ensures in
    let low = c.requires.earlier r.number r.inner_is in
    let known = c.requires.known in
    records_room plan image c.args.step.now c.args.elements.now c.in-Some.run' moves c.args.at c.args.base c.args.n
    (length c.args.out.now) r (omega (arith, low, known)) c.in-Some.is c.requires.can c.requires.few c.requires.room

pub move_each-returns-in-Some-record_moves : goal.move_each-returns-in-Some-record_moves
move_each-returns-in-Some-record_moves t c =
    let plan = c.args.work.now.plan.now in
    let image = image_in c.args.work.now.sender in
    let moves = c.in-Some-record_moves.moves.now in
    let r : AreRecordMoves plan image c.args.step.now c.args.elements.now moves = c.in-Some-record_moves.ensures in
    let low = c.requires.earlier r.number r.inner_is in
    let known = c.requires.known in
    records_put plan image c.args.step.now c.args.elements.now c.in-Some.run' moves c.args.at c.args.base c.args.n c.args.size
    c.args.out.now c.put_records.new.out r (omega (arith, low, known)) c.in-Some.is c.requires.can c.requires.few
    c.args.work.now.sender.are c.requires.room c.put_records.ensures
