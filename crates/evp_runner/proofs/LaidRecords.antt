-- A plan's record that is laid.
use Rattle.std.proofs.Common.{◌≡◌, ℕ, ◌-◌, ◌≤◌, List, [], length, refl, sym, ap, ◌∙◌, subst, arith}
use Rattle.std.specs.Prelude.{replicate}
use Rattle.evp_format.specs.Layout.{Layout}
use Rattle.evp_format.specs.Viewing.{Image, image_of}
use Rattle.evp_plan.specs.Laid.{Laying, IsLaidOf}
use Rattle.evp_plan.specs.Moving.{moved}
use Rattle.evp_plan.specs.Planned.{Planned, StandsFor, machine_in, whole_program}
use Rattle.evp_plan.specs.Program.{Program, programs, program_of, last_steps, IsOrdered}
use Rattle.evp_plan.specs.Ready.{IsReady}
use Rattle.evp_plan.specs.Sound.{IsSound}
use Rattle.evp_plan.proofs.Programs.{program_at-steps}
use Rattle.evp_record.specs.Record.{Record, IsRecord, value_of}
use Rattle.evp_runner.specs.Laying.{CanLayAll, all_moved}
use Rattle.evp_runner.specs.Pieces.{IsPut}
use Rattle.evp_runner.specs.Running.{IsSizeOf, AreConverted}
use Rattle.evp_runner.proofs.Measured.{at_index}
use Rattle.evp_runner.proofs.Runs.{viewed_as, moved_size, converted_whole}

whole_is : (plan : Planned) → IsOrdered plan.table → 1 ≤ length plan.table
    → whole_program plan ≡ program_of (programs plan.table) (last_steps plan.table)
whole_is plan ordered some =
    program_at-steps plan.table (length plan.table - 1) (last_steps plan.table) ordered
    (at_index plan.table (length plan.table - 1) [] (omega (arith, some)))

pub can_lay_all : (plan : Planned) (held : Record) (to : Layout) (image : Image) (laid : Laying) (n : ℕ) → StandsFor plan held.layout to
    → IsRecord held → IsSizeOf plan held n → image ≡ image_of held.layout held.bytes → IsOrdered plan.table → 1 ≤ length plan.table
    → IsLaidOf image.order plan.order (programs plan.table) (last_steps plan.table) laid → length laid.numbers.cells ≡ plan.fixed
    → laid.numbers.reach ≤ length image.bytes → CanLayAll plan image laid n
can_lay_all plan held to image laid n stands is size image_is ordered some laid_is fixed reach =
    let program = whole_is plan ordered some in
    let Ready : Program → Type 0 = λ p. IsReady image p 0 in
    let Ready' : Image → Type 0 = λ i. IsReady i (whole_program plan) 0 in
    let Sound : Program → Type 0 = λ p. IsSound plan.pointer p 16 (length laid.numbers.cells) in
    let Sound' : ℕ → Type 0 = λ m. IsSound plan.pointer (whole_program plan) 16 m in
    record {
      is = laid_is;
      ready = subst Ready program (subst Ready' (sym image_is) (stands.reads held.bytes (value_of held) (viewed_as held is)));
      levels = 16;
      sound = subst Sound program (subst Sound' (sym fixed) stands.sound);
      reach = reach;
      sized = ap (λ (m : ℕ). (all_moved plan image m).size) fixed
          ∙ ap (λ (p : Program). (moved image (machine_in plan) p 0 0 plan.fixed).size) (sym program)
          ∙ ap (λ (i : Image). (moved i (machine_in plan) (whole_program plan) 0 0 plan.fixed).size) image_is
          ∙ moved_size plan held to n stands is size;
    }

pub laid_converted : (plan : Planned) (held : Record) (to : Layout) (image : Image) (laid : Laying) (n : ℕ) (new : List ℕ)
    → StandsFor plan held.layout to → IsRecord held → IsSizeOf plan held n → image ≡ image_of held.layout held.bytes
    → IsOrdered plan.table → 1 ≤ length plan.table → length laid.numbers.cells ≡ plan.fixed → length new ≡ n
    → IsPut (all_moved plan image (length laid.numbers.cells)) (length new) (replicate (length new) 0) new → AreConverted plan held new
laid_converted plan held to image laid n new stands is size image_is ordered some fixed long put =
    let program = whole_is plan ordered some in
    let Put : ℕ → Type 0 = λ m. IsPut (all_moved plan image m) (length new) (replicate (length new) 0) new in
    let Put' : Program → Type 0 = λ p. IsPut (moved image (machine_in plan) p 0 0 plan.fixed) (length new) (replicate (length new) 0) new in
    converted_whole plan held to image (length plan.table - 1) plan.fixed n (length new) (replicate (length new) 0) new stands is size image_is
    refl refl (ap (λ (m : ℕ). replicate {A = ℕ} m 0) long) (subst Put' (sym program) (subst Put fixed put))
