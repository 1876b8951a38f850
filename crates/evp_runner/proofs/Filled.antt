-- A record that one array of numbers fills.
use Rattle.std.proofs.Common.{◌≡◌, ℕ, ◌+◌, ◌*◌, ◌≤◌, List, ◌++◌, length, get_or, Some, refl, sym, ap, ◌∙◌, subst, arith}
use Rattle.std.specs.Prelude.{slice_get, replicate}
use Rattle.std.proofs.lemmas.List.{length-replicate, append-nil, drop_all}
use Rattle.evp_base.specs.declared.kind.Kind.{Kind}
use Rattle.evp_format.specs.Bytes.{put_at}
use Rattle.evp_format.specs.Packing.{Pieces}
use Rattle.evp_format.specs.Viewing.{Image}
use Rattle.evp_plan.specs.declared.step.Elements.{Elements}
use Rattle.evp_plan.specs.declared.step.Op.{Op}
use Rattle.evp_plan.specs.declared.step.Op.TheVariants.{Each}
use Rattle.evp_plan.specs.declared.step.Step.{Step}
use Rattle.evp_plan.specs.Moving.{moved, moved_op, moved_count}
use Rattle.evp_plan.specs.Planned.{Planned, machine_in}
use Rattle.evp_plan.specs.Program.{program_at, IsOrdered}
use Rattle.evp_plan.specs.Ready.{IsOpThere, IsReady}
use Rattle.evp_plan.specs.Sound.{IsSoundOp, IsSound}
use Rattle.evp_runner.specs.Pieces.{IsPut, IsFilled}
use Rattle.evp_runner.specs.StepIn.{inside, AreSideBySide, CanMove, CanMoveList}
use Rattle.evp_runner.proofs.Moved.{list_moved, step_moved, rest_moved, step_next, moving_end, steps_end, record_moved}
use Rattle.evp_runner.proofs.Moved.{can_move_each}
use Rattle.evp_runner.proofs.SideBySide.{numbers_of, numbers_long, numbers_moved}

put_whole : (t : ℕ) (new old : List ℕ) → t ≡ 0 → length new ≡ length old → put_at t new old ≡ new
put_whole t new old begins long =
    ap (λ (n : ℕ). put_at n new old) begins
    ∙ ap (λ (l : List ℕ). new ++ l) (drop_all (0 + length new) old (omega (arith, long))) ∙ append-nil new

-- the array of a step
pub array_filled : (plan : Planned) (image : Image) (step : Step) (elements : Elements) (count n width : ℕ) (from : Kind)
    (bytes zeros new : List ℕ) → n ≡ moved_count image 0 count elements.run → step.task.offset ≡ 0 → n * step.task.size ≡ length zeros
    → AreSideBySide image 0 n elements from width bytes → new ≡ put_at 0 (numbers_of plan image step from width bytes) zeros
    → IsFilled (λ size. moved_op image (machine_in plan) step.task.size (Each count elements)
    (λ s t later. moved image (machine_in plan) (inside plan step) s t later) 0 (0 + step.task.offset) size) new
array_filled plan image step elements count n width from bytes old new n_is begins whole s put = λ size.
    (let zeros : List ℕ = replicate (length new) 0 in
    let base = 0 + step.task.offset in
    let made = numbers_of plan image step from width bytes in
    let long = numbers_long plan image step elements 0 n width from bytes s in
    let all : new ≡ made = put ∙ put_whole 0 made old refl (long ∙ whole) in
    let zeros_long = length-replicate {A = ℕ} (length new) 0 in
    let new_long = ap length all in
    let here : new ≡ put_at base made zeros =
    all ∙ sym (put_whole base made zeros (omega (arith, begins)) (sym new_long ∙ sym zeros_long)) in
    let Put : ℕ → Type 0 = λ m. IsPut (list_moved plan image step elements 0 base m size) size zeros new in
    subst Put n_is
    (numbers_moved plan image step elements 0 base n size width from bytes zeros new s
    (omega (arith, begins, long, new_long, zeros_long)) here))

-- the record of one step
record_filled : (plan : Planned) (image : Image) (number : ℕ) (steps : List Step) (step : Step) (new : List ℕ) → IsOrdered plan.table
    → slice_get plan.table number ≡ Some steps → step ≡ get_or steps 0 step → length steps ≡ 1
    → IsFilled (λ size. step_moved plan image step 0 0 size) new
    → IsFilled (λ size. moved image (machine_in plan) (program_at plan.table number) 0 0 size) new
record_filled plan image number steps step new ordered found is one filled = λ size.
    (let zeros : List ℕ = replicate (length new) 0 in
    let whole = rest_moved plan image steps 0 0 size in
    let moving = step_next plan image steps 0 step 0 0 size size whole zeros new zeros is (omega (arith, one)) (filled size)
    (record { sized = refl; put = refl }) in
    let Put : Pieces → Type 0 = λ p. IsPut p size zeros new in
    subst Put (sym (record_moved plan image number steps 0 0 size ordered found))
    (moving_end size _ whole new zeros (steps_end plan image steps 1 0 0 size (omega (arith, one))) moving))

-- the same where the step's array was filled
pub only_filled : (plan : Planned) (image : Image) (number : ℕ) (steps : List Step) (step : Step) (count : ℕ) (elements : Elements)
    (new : List ℕ) → IsOrdered plan.table → slice_get plan.table number ≡ Some steps → step ≡ get_or steps 0 step → length steps ≡ 1
    → step.task.op ≡ Each count elements
    → IsFilled (λ size. moved_op image (machine_in plan) step.task.size (Each count elements)
    (λ s t later. moved image (machine_in plan) (inside plan step) s t later) 0 (0 + step.task.offset) size) new
    → IsFilled (λ size. moved image (machine_in plan) (program_at plan.table number) 0 0 size) new
only_filled plan image number steps step count elements new ordered found is one op_is filled =
    let Filled : Op → Type 0 = λ op. IsFilled (λ size. moved_op image (machine_in plan) step.task.size op
    (λ s t later. moved image (machine_in plan) (inside plan step) s t later) 0 (0 + step.task.offset) size) new in
    record_filled plan image number steps step new ordered found is one (subst Filled (sym op_is) filled)

-- what the array of the first step needs
pub record CanArray (plan : Planned) (image : Image) (step : Step) (count : ℕ) (elements : Elements) (n : ℕ) : Type 0 where
  pub can : CanMoveList plan image step elements 0
  pub room : step.task.offset + count * step.task.size ≤ n

pub array_can : (plan : Planned) (image : Image) (number : ℕ) (steps : List Step) (step : Step) (count : ℕ) (elements : Elements) (n : ℕ)
    → IsOrdered plan.table → slice_get plan.table number ≡ Some steps → slice_get steps 0 ≡ Some step
    → step.task.op ≡ Each count elements → CanMove plan image (program_at plan.table number) 0 0 n
    → CanArray plan image step count elements n
array_can plan image number steps step count elements n ordered found is op_is can =
    let one = can_move_each plan image number steps 0 0 n n ordered found refl can 0 step is in
    let Ready : Op → Type 0 = λ op. IsOpThere image 0 op (λ s. IsReady image (inside plan step) s) in
    let Sound : Op → Type 0 = λ op. IsSoundOp plan.pointer one.length step.task.offset step.task.size op
    (λ size. IsSound plan.pointer (inside plan step) one.levels size) in
    let sound = subst Sound op_is one.sound in
    let within = sound.0 in
    let room = one.room in
    record {
      can = record { ready = subst Ready op_is one.ready; levels = one.levels; sound = sound.1 };
      room = omega (arith, within, room);
    }
