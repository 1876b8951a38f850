-- A plan run on a record: what stands for its formats is found and written.
use Rattle.std.proofs.Common.{◌≡◌, ℕ, ◌-◌, ◌≤◌, List, length, Result, Ok, Err, refl, sym, ap, ◌∙◌, subst, arith}
use Rattle.std.specs.Prelude.{IsOk, replicate}
use Rattle.evp_format.specs.declared.broken.Broken.{Broken}
use Rattle.evp_format.specs.Converting.{Made, made, unfit, large, convert}
use Rattle.evp_format.specs.Datum.{Datum}
use Rattle.evp_format.specs.Layout.{Layout}
use Rattle.evp_format.specs.Packing.{Pieces, Machine, put_pieces}
use Rattle.evp_format.specs.Viewing.{Image, image_of, view}
use Rattle.evp_plan.specs.Measuring.{sized}
use Rattle.evp_plan.specs.Moving.{moved}
use Rattle.evp_plan.specs.Planned.{Planned, StandsFor, whole_program, machine_in, measured_whole, moved_whole, laid_out}
use Rattle.evp_plan.specs.Program.{program_at}
use Rattle.evp_record.specs.Record.{Record, IsRecord, value_of, value_or_null}
use Rattle.evp_runner.specs.Outcome.{outcome}
use Rattle.evp_runner.specs.Pieces.{IsPut}
use Rattle.evp_runner.specs.Running.{IsSizeOf, AreConverted}
use Rattle.evp_runner.specs.StepIn.{CanRun, CanMove}
use Rattle.evp_runner.proofs.Moved.{grows_moved}

-- the value that a record has
ok_value : (r : Result Datum Broken) → IsOk r → r ≡ Ok (value_or_null r)
ok_value (Ok value) ok = refl
ok_value (Err fault) ok = cc

pub viewed_as : (held : Record) → IsRecord held → view held.layout held.bytes ≡ Ok (value_of held)
viewed_as held is = ok_value (view held.layout held.bytes) is.viewed

outcome-sized : {A : Type 0} (m : Made A) → outcome (sized m) ≡ outcome m
outcome-sized (made a size) = refl
outcome-sized (unfit place) = refl
outcome-sized (large place) = refl

-- what is found is the conversion's outcome
pub measured_value : (plan : Planned) (held : Record) (to : Layout) (limit : ℕ) → IsRecord held → StandsFor plan held.layout to
    → outcome (measured_whole plan (image_of held.layout held.bytes) limit) ≡ outcome (convert to (value_of held) limit)
measured_value plan held to limit is stands =
    ap outcome (stands.measures held.bytes (value_of held) limit (viewed_as held is)) ∙ outcome-sized (convert to (value_of held) limit)

-- ---- what the plan knows of a record of its sender's

pub sent_order : (plan : Planned) (held : Record) (to : Layout) (image : Image) → StandsFor plan held.layout to
    → image ≡ image_of held.layout held.bytes → plan.sender.order ≡ image.order
sent_order plan held to image stands image_is = ap (λ (m : Machine). m.order) stands.sender ∙ sym (ap (λ (i : Image). i.order) image_is)

pub sent_pointer : (plan : Planned) (held : Record) (to : Layout) (image : Image) → StandsFor plan held.layout to
    → image ≡ image_of held.layout held.bytes → plan.sender.pointer ≡ 8 → image.pointer ≡ 8
sent_pointer plan held to image stands image_is eight =
    ap (λ (i : Image). i.pointer) image_is ∙ sym (ap (λ (m : Machine). m.pointer) stands.sender) ∙ eight

pub sent_room : (plan : Planned) (held : Record) (to : Layout) (image : Image) → StandsFor plan held.layout to → IsRecord held
    → image ≡ image_of held.layout held.bytes → plan.room ≤ length image.bytes
sent_room plan held to image stands is image_is =
    subst (λ (i : Image). plan.room ≤ length i.bytes) (sym image_is) (stands.room held.bytes (value_of held) (viewed_as held is))

-- ---- what runs

pub can_whole : (plan : Planned) (held : Record) (to : Layout) (image : Image) (n placed : ℕ) → StandsFor plan held.layout to
    → IsRecord held → image ≡ image_of held.layout held.bytes → n ≡ length plan.table - 1 → placed ≡ 0
    → CanRun plan image (program_at plan.table n) 0 placed
can_whole plan held to image n placed stands is image_is n_is placed_is =
    let P : Image → Type 0 = λ i. CanRun plan i (program_at plan.table n) 0 placed in
    let P' : ℕ → Type 0 = λ m. CanRun plan (image_of held.layout held.bytes) (program_at plan.table m) 0 placed in
    subst P (sym image_is)
    (subst P' (sym n_is)
    (record {
      ready = stands.reads held.bytes (value_of held) (viewed_as held is);
      levels = 16;
      room = omega (arith, placed_is);
      length = plan.fixed;
      sound = stands.sound;
    }))

-- ---- writing

pub record ConvertedTo (m : Made Datum) (n : ℕ) : Type 0 where
  pub value : Datum
  pub is : m ≡ made value n

sized_made : (m : Made Datum) (n : ℕ) → sized m ≡ made tt n → ConvertedTo m n
sized_made (made value size) n is = let same : size ≡ n = cc in record { value = value; is = ap (λ (s : ℕ). made value s) same }
sized_made (unfit place) n is = cc
sized_made (large place) n is = cc

pub moved_size : (plan : Planned) (held : Record) (to : Layout) (n : ℕ) → StandsFor plan held.layout to → IsRecord held → IsSizeOf plan held n
    → (moved_whole plan (image_of held.layout held.bytes)).size ≡ n
moved_size plan held to n stands is size =
    let seen = viewed_as held is in
    let converted = sized_made (convert to (value_of held) size.limit) n
    (sym (stands.measures held.bytes (value_of held) size.limit seen) ∙ size.is) in
    stands.sizes held.bytes (value_of held) converted.value size.limit n seen converted.is

-- the pieces by the values that the code has
same_pieces : (plan : Planned) (held : Record) (image : Image) (number fixed : ℕ) → image ≡ image_of held.layout held.bytes
    → number ≡ length plan.table - 1 → fixed ≡ plan.fixed
    → moved image (machine_in plan) (program_at plan.table number) 0 0 fixed ≡ moved_whole plan (image_of held.layout held.bytes)
same_pieces plan held image number fixed image_is number_is fixed_is =
    ap (λ (i : Image). moved i (machine_in plan) (program_at plan.table number) 0 0 fixed) image_is
    ∙ ap (λ (m : ℕ). moved (image_of held.layout held.bytes) (machine_in plan) (program_at plan.table m) 0 0 fixed) number_is
    ∙ ap (λ (f : ℕ). moved (image_of held.layout held.bytes) (machine_in plan) (whole_program plan) 0 0 f) fixed_is

pub fits_whole : (plan : Planned) (held : Record) (to : Layout) (image : Image) (number fixed n room : ℕ) → StandsFor plan held.layout to
    → IsRecord held → IsSizeOf plan held n → image ≡ image_of held.layout held.bytes
    → number ≡ length plan.table - 1 → fixed ≡ plan.fixed → room ≡ n
    → (moved image (machine_in plan) (program_at plan.table number) 0 0 fixed).size ≤ room
fits_whole plan held to image number fixed n room stands is size image_is number_is fixed_is room_is =
    let same = ap (λ (p : Pieces). p.size) (same_pieces plan held image number fixed image_is number_is fixed_is) in
    let whole = moved_size plan held to n stands is size in
    omega (arith, same, whole, room_is)

pub can_move_whole : (plan : Planned) (held : Record) (to : Layout) (image : Image) (number n room : ℕ) → StandsFor plan held.layout to
    → IsRecord held → IsSizeOf plan held n → image ≡ image_of held.layout held.bytes
    → number ≡ length plan.table - 1 → room ≡ n → CanMove plan image (program_at plan.table number) 0 0 room
can_move_whole plan held to image number n room stands is size image_is number_is room_is =
    let P : Image → Type 0 = λ i. CanMove plan i (program_at plan.table number) 0 0 room in
    let P' : ℕ → Type 0 = λ m. CanMove plan (image_of held.layout held.bytes) (program_at plan.table m) 0 0 room in
    let grows = grows_moved (image_of held.layout held.bytes) (machine_in plan) (whole_program plan) 0 0 plan.fixed in
    let whole = moved_size plan held to n stands is size in
    subst P (sym image_is)
    (subst P' (sym number_is)
    (record {
      ready = stands.reads held.bytes (value_of held) (viewed_as held is);
      levels = 16;
      length = plan.fixed;
      sound = stands.sound;
      room = omega (arith, grows, whole, room_is);
    }))

pub converted_whole : (plan : Planned) (held : Record) (to : Layout) (image : Image) (number fixed n end : ℕ) (start new : List ℕ)
    → StandsFor plan held.layout to → IsRecord held → IsSizeOf plan held n
    → image ≡ image_of held.layout held.bytes → number ≡ length plan.table - 1 → fixed ≡ plan.fixed → start ≡ replicate n 0
    → IsPut (moved image (machine_in plan) (program_at plan.table number) 0 0 fixed) end start new → AreConverted plan held new
converted_whole plan held to image number fixed n end start new stands is size image_is number_is fixed_is start_is put =
    let whole = moved_whole plan (image_of held.layout held.bytes) in
    let same = same_pieces plan held image number fixed image_is number_is fixed_is in
    let long = moved_size plan held to n stands is size in
    let written : new ≡ laid_out whole =
    put.put ∙ ap (λ (p : Pieces). put_pieces p.all start) same ∙ ap (put_pieces whole.all)
    (start_is ∙ ap (λ (m : ℕ). replicate m 0) (sym long)) in
    λ to' value limit size' stands' made_as. written ∙ stands'.writes held.bytes (value_of held) value limit size' (viewed_as held is)
    made_as
