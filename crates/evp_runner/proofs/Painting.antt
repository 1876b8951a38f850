-- A record whose bytes are all made by gathers.
use Rattle.std.proofs.Common.{◌≡◌, ℕ, zero, suc, ◌+◌, ◌-◌, ◌≤◌, List, [], ◌∷◌, length, get_or, Some, refl, sym, ap, ◌∙◌, subst, arith}
use Rattle.std.specs.Prelude.{slice_get, replicate}
use Rattle.evp_base.proofs.Digits.{AreBytes}
use Rattle.evp_format.specs.Layout.{Layout}
use Rattle.evp_format.specs.Packing.{put_pieces}
use Rattle.evp_format.specs.Viewing.{Image, image_of}
use Rattle.evp_plan.specs.declared.step.Step.{Step}
use Rattle.evp_plan.specs.Cells.{Moving, painted_at, end_of, IsMovesOf, IsWholeOf}
use Rattle.evp_plan.specs.Moving.{moved}
use Rattle.evp_plan.specs.Planned.{Planned, StandsFor, machine_in, whole_program}
use Rattle.evp_plan.specs.Program.{Program, programs, program_of, program_at, last_steps, IsOrdered}
use Rattle.evp_plan.specs.Ready.{IsReady}
use Rattle.evp_plan.specs.Sound.{IsSound}
use Rattle.evp_plan.proofs.Painted.{sound_end, moves_long, moves_make, whole_make, whole_size, reach_inside}
use Rattle.evp_plan.proofs.Programs.{program_at-steps}
use Rattle.evp_record.specs.Record.{Record, IsRecord, value_of}
use Rattle.evp_runner.specs.Pieces.{IsPut}
use Rattle.evp_runner.specs.Running.{IsSizeOf}
use Rattle.evp_runner.specs.StepIn.{CanMove}
use Rattle.evp_runner.proofs.Measured.{at_index}
use Rattle.evp_runner.proofs.Runs.{viewed_as, moved_size}

pub found_or : (table : List (List Step)) (n : ℕ) (steps : List Step) → slice_get table n ≡ Some steps → get_or table n [] ≡ steps
found_or [] n steps found = cc
found_or (first ∷ table) zero steps found = cc
found_or (first ∷ table) (suc n) steps found = found_or table n steps found

-- what is known where a list of steps has moves
pub record Paints (plan : Planned) (image : Image) (number : ℕ) (moves : Moving) (at t : ℕ) : Type 0 where
  pub steps : List Step
  pub is : IsMovesOf image.order plan.order steps moves
  pub ready : IsReady image (program_of (programs plan.table) steps) at
  pub program : program_at plan.table number ≡ program_of (programs plan.table) steps

pub paints : (plan : Planned) (image : Image) (number : ℕ) (steps : List Step) (moves : Moving) (at t n : ℕ) → IsOrdered plan.table
    → slice_get plan.table number ≡ Some steps
    → IsMovesOf image.order plan.order (get_or plan.table number []) moves → CanMove plan image (program_at plan.table number) at t n
    → Paints plan image number moves at t
paints plan image number steps moves at t n ordered found is can =
    let program = program_at-steps plan.table number steps ordered found in
    let Moves : List Step → Type 0 = λ s. IsMovesOf image.order plan.order s moves in
    let Ready : Program → Type 0 = λ p. IsReady image p at in
    record {
      steps = steps;
      is = subst Moves (found_or plan.table number steps found) is;
      ready = subst Ready program can.ready;
      program = program;
    }

pub paints_room : (plan : Planned) (image : Image) (number : ℕ) (moves : Moving) (at t n : ℕ) → (p : Paints plan image number moves at t)
    → CanMove plan image (program_at plan.table number) at t n → t + end_of p.steps ≤ n
paints_room plan image number moves at t n p can =
    let Sound : Program → Type 0 = λ q. IsSound plan.pointer q can.levels can.length in
    let end = sound_end plan.pointer (programs plan.table) p.steps can.levels can.length p.is.plain (subst Sound p.program can.sound) in
    let room = can.room in
    omega (arith, end, room)

pub paints_cells : (plan : Planned) (image : Image) (number : ℕ) (moves : Moving) (at t n : ℕ) → (p : Paints plan image number moves at t)
    → CanMove plan image (program_at plan.table number) at t n → t + length moves.cells ≤ n
paints_cells plan image number moves at t n p can =
    let long = moves_long image.order plan.order p.steps moves p.is in
    let room = paints_room plan image number moves at t n p can in
    omega (arith, long, room)

pub paints_reach : (plan : Planned) (image : Image) (number : ℕ) (moves : Moving) (at t : ℕ) → Paints plan image number moves at t
    → at ≤ length image.bytes → at + moves.reach ≤ length image.bytes
paints_reach plan image number moves at t p here =
    let reach = reach_inside (programs plan.table) image p.steps at here p.ready in
    let short = p.is.reach in
    omega (arith, reach, short)

pub paints_put : (plan : Planned) (image : Image) (number : ℕ) (moves : Moving) (at t size : ℕ) (out out' : List ℕ)
    → (p : Paints plan image number moves at t) → CanMove plan image (program_at plan.table number) at t (length out)
    → AreBytes image.bytes → out' ≡ painted_at image.bytes at t moves.cells out
    → IsPut (moved image (machine_in plan) (program_at plan.table number) at t size) size out out'
paints_put plan image number moves at t size out out' p can are painted_is =
    let room = paints_room plan image number moves at t (length out) p can in
    let made = moves_make (programs plan.table) image (machine_in plan) p.steps moves at t size out p.is p.ready are room in
    let Put : Program → Type 0 = λ q. IsPut (moved image (machine_in plan) q at t size) size out out' in
    subst Put (sym p.program) (record { sized = made.1; put = painted_is ∙ made.0 })

-- ---- a whole record

-- what is known where the list that makes the record has moves
pub record PaintsAll (plan : Planned) (image : Image) (moves : Moving) : Type 0 where
  pub is : IsWholeOf image.order plan.order (last_steps plan.table) moves
  pub ready : IsReady image (program_of (programs plan.table) (last_steps plan.table)) 0
  pub program : whole_program plan ≡ program_of (programs plan.table) (last_steps plan.table)

pub paints_all : (plan : Planned) (held : Record) (to : Layout) (image : Image) (moves : Moving) → StandsFor plan held.layout to
    → IsRecord held → image ≡ image_of held.layout held.bytes → IsOrdered plan.table → 1 ≤ length plan.table
    → IsWholeOf image.order plan.order (last_steps plan.table) moves → PaintsAll plan image moves
paints_all plan held to image moves stands is image_is ordered some whole =
    let found = at_index plan.table (length plan.table - 1) [] (omega (arith, some)) in
    let program = program_at-steps plan.table (length plan.table - 1) (last_steps plan.table) ordered found in
    let Ready : Program → Type 0 = λ p. IsReady image p 0 in
    let Ready' : Image → Type 0 = λ i. IsReady i (whole_program plan) 0 in
    record {
      is = whole;
      ready = subst Ready program (subst Ready' (sym image_is) (stands.reads held.bytes (value_of held) (viewed_as held is)));
      program = program;
    }

pub all_reach : (plan : Planned) (image : Image) (moves : Moving) → PaintsAll plan image moves → 0 + moves.reach ≤ length image.bytes
all_reach plan image moves p =
    let reach = reach_inside (programs plan.table) image (last_steps plan.table) 0 (omega arith) p.ready in
    let short = p.is.over.reach in
    omega (arith, reach, short)

-- the moves make as many bytes as the plan finds
pub all_long : (plan : Planned) (held : Record) (to : Layout) (image : Image) (moves : Moving) (n : ℕ) → StandsFor plan held.layout to
    → IsRecord held → IsSizeOf plan held n → image ≡ image_of held.layout held.bytes → PaintsAll plan image moves → AreBytes image.bytes
    → length moves.cells ≡ plan.fixed → length moves.cells ≡ n
all_long plan held to image moves n stands is size image_is p are fixed =
    fixed
    ∙ whole_size (programs plan.table) image (machine_in plan) (last_steps plan.table) moves 0 plan.fixed p.is p.ready are
    ∙ ap (λ (q : Program). (moved image (machine_in plan) q 0 0 plan.fixed).size) (sym p.program)
    ∙ ap (λ (i : Image). (moved i (machine_in plan) (whole_program plan) 0 0 plan.fixed).size) image_is
    ∙ moved_size plan held to n stands is size

pub all_put : (plan : Planned) (image : Image) (moves : Moving) (out new : List ℕ) → PaintsAll plan image moves → AreBytes image.bytes
    → length moves.cells ≡ length out → new ≡ painted_at image.bytes 0 0 moves.cells out
    → IsPut (moved image (machine_in plan) (whole_program plan) 0 0 plan.fixed)
    (moved image (machine_in plan) (whole_program plan) 0 0 plan.fixed).size (replicate (length out) 0) new
all_put plan image moves out new p are long painted_is =
    let made = whole_make (programs plan.table) image (machine_in plan) (last_steps plan.table) moves 0 plan.fixed out p.is p.ready are long
    in
    record {
      sized = refl;
      put = painted_is ∙ made
          ∙ ap (λ (q : Program). put_pieces (moved image (machine_in plan) q 0 0 plan.fixed).all (replicate (length out) 0))
          (sym p.program);
    }
