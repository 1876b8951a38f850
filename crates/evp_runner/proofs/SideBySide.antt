-- Numbers that stand side by side, put at once.
use Rattle.std.proofs.Common.{◌≡◌, ◌≢◌, ℕ, zero, suc, ◌+◌, ◌*◌, ◌/◌, ◌<◌, ◌≤◌, IsTrue, List, length, drop, Option}
use Rattle.std.proofs.Common.{Some, None, refl, sym, ap, ◌∙◌, subst, arith}
use Rattle.std.specs.List.{flat_map}
use Rattle.std.specs.Prelude.{⊤}
use Rattle.std.proofs.Math.Nat.{mul-div_cancel}
use Rattle.std.proofs.lemmas.Bool.Decides.{nat_tests}
use Rattle.std.proofs.lemmas.List.{length-drop, length-take}
use Rattle.evp_base.specs.Numbers.{number, digits, is_size_of, is_width}
use Rattle.evp_base.specs.declared.kind.Kind.{Kind}
use Rattle.evp_base.specs.declared.kind.Kind.TheVariants.{Int, Unsigned, Char, Boolean, Enumeration}
use Rattle.evp_base.proofs.Numbers.{length-digits}
use Rattle.evp_format.specs.Bytes.{bytes_at, put_at}
use Rattle.evp_format.specs.Packing.{Pieces}
use Rattle.evp_format.specs.Viewing.{Image}
use Rattle.evp_plan.specs.declared.step.Elements.{Elements}
use Rattle.evp_plan.specs.declared.step.Part.{Part}
use Rattle.evp_plan.specs.declared.step.Part.TheVariants as part
use Rattle.evp_plan.specs.declared.step.Run.{Run}
use Rattle.evp_plan.specs.declared.step.Step.{Step}
use Rattle.evp_plan.specs.Moving.{moved, moved_part, moved_elements, source_place}
use Rattle.evp_plan.specs.Planned.{Planned, machine_in}
use Rattle.evp_plan.specs.Ready.{IsRunThere, AreElementsThere, IsReady}
use Rattle.evp_plan.specs.Sound.{IsSoundPart, IsSound}
use Rattle.evp_plan.specs.Standing.{run_count, run_start}
use Rattle.evp_plan.proofs.NumbersPut.{next_place, groups_take, length-groups, numbers_size, all_put}
use Rattle.evp_wide.specs.Elements.{rewritten}
use Rattle.evp_wide.specs.Groups.{groups, elements}
use Rattle.evp_runner.specs.Pieces.{IsPut}
use Rattle.evp_runner.specs.StepIn.{inside, AreFew, AreSideBySide, AreNumbersThere, CanMoveList}
use Rattle.evp_runner.proofs.Moved.{list_moved}

-- ---- elements

pub kind_width : (kind : Kind) (size : ℕ) → IsTrue (is_size_of kind size) → IsTrue (is_width size)
kind_width Int size allowed = allowed
kind_width Unsigned size allowed = allowed
kind_width Char size allowed = grind (arith, nat_tests, allowed)
kind_width Boolean size allowed = allowed
kind_width Enumeration size allowed = allowed

-- what stands there of an array of numbers
pub numbers_there : (plan : Planned) (image : Image) (step : Step) (elements : Elements) (at : ℕ)
    → CanMoveList plan image step elements at → AreNumbersThere image at elements.part elements.run
numbers_there plan image step elements at can = by elements.part elements.run can.ready
  where
    by : (p : Part) (run : Option Run) → AreElementsThere image at p (λ s. IsReady image (inside plan step) s) run
        → AreNumbersThere image at p run
    by p None ready = tt
    by (part.Number kind from width) (Some run) ready =
        record { counted = ready.counted; begins = ready.begins; within = ready.within; each = ready.each }
    by part.Text (Some run) ready = tt
    by part.Record (Some run) ready = tt

-- the last number ends inside the bytes
pub numbers_end : (image : Image) (at n size : ℕ) (kind from : Kind) (run : Run)
    → IsRunThere image at (part.Number kind from size) (λ s. ⊤) run → n ≤ run_count image at run → n ≢ 0 → run.stride ≡ size
    → run_start image at run + n * size ≤ length image.bytes
numbers_end image at zero size kind from run there few some same = absurd (some refl)
numbers_end image at (suc n) size kind from run there few some same =
    let last = (there.each n (omega (arith, few))).0 in
    let strides : n * run.stride ≡ n * size = ap (λ (w : ℕ). n * w) same in
    let more = next_place n size in
    omega (arith, last, strides, more)

pub first_allowed : (image : Image) (at n size : ℕ) (kind from : Kind) (run : Run)
    → IsRunThere image at (part.Number kind from size) (λ s. ⊤) run → n ≤ run_count image at run → n ≢ 0 → IsTrue (is_size_of from size)
first_allowed image at zero size kind from run there few some = absurd (some refl)
first_allowed image at (suc n) size kind from run there few some = (there.each n (omega (arith, few))).1

-- what is known of numbers that stand side by side
pub record SideThere (image : Image) (at n width : ℕ) (elements : Elements) (run : Run) (from : Kind) : Type 0 where
  pub within : run_start image at run + n * width ≤ length image.bytes
  pub allowed : IsTrue (is_size_of from width)

pub side_there : (image : Image) (at n width : ℕ) (elements : Elements) (run : Run) (kind from : Kind)
    → elements.part ≡ part.Number kind from width → elements.run ≡ Some run → AreNumbersThere image at elements.part elements.run
    → AreFew image at n elements.run → run.stride ≡ width → n ≢ 0 → SideThere image at n width elements run from
side_there image at n width elements run kind from part_is run_is there few stride some =
    let There : Part → Type 0 = λ p. AreNumbersThere image at p elements.run in
    let There' : Option Run → Type 0 = λ r. AreNumbersThere image at (part.Number kind from width) r in
    let numbers : IsRunThere image at (part.Number kind from width) (λ s. ⊤) run = subst There' run_is (subst There part_is there) in
    let most : n ≤ run_count image at run = subst (λ (r : Option Run). AreFew image at n r) run_is few in
    record {
      within = numbers_end image at n width kind from run numbers most some stride;
      allowed = first_allowed image at n width kind from run numbers most some;
    }

pub side_is : (image : Image) (at n width start count : ℕ) (elements : Elements) (run : Run) (kind from : Kind) (bytes : List ℕ)
    → SideThere image at n width elements run from → elements.part ≡ part.Number kind from width → elements.run ≡ Some run
    → run.stride ≡ width → start ≡ run_start image at run → count ≡ n * width
    → bytes ≡ bytes_at start count image.bytes → AreSideBySide image at n elements from width bytes
side_is image at n width start count elements run kind from bytes there part_is run_is stride start_is count_is are =
    record {
      kind = kind;
      run = run;
      part_is = part_is;
      run_is = run_is;
      stride_is = stride;
      allowed = there.allowed;
      within = there.within;
      are = are ∙ ap (λ (s : ℕ). bytes_at s count image.bytes) start_is
          ∙ ap (λ (m : ℕ). bytes_at (run_start image at run) m image.bytes) count_is;
    }

pub side_long : (image : Image) (at n width : ℕ) (elements : Elements) (from : Kind) (bytes : List ℕ)
    → AreSideBySide image at n elements from width bytes → length bytes ≡ n * width
side_long image at n width elements from bytes s =
    let start = run_start image at s.run in
    let left = length-drop start image.bytes in
    let taken = length-take (n * width) (drop start image.bytes) in
    let within = s.within in
    ap length s.are ∙ omega (arith, left, taken, within)

-- the receiver's numbers have a size that numbers have
pub out_width : (plan : Planned) (image : Image) (step : Step) (elements : Elements) (at n width : ℕ) (from : Kind) (bytes : List ℕ)
    → AreSideBySide image at n elements from width bytes → CanMoveList plan image step elements at → IsTrue (is_width step.task.size)
out_width plan image step elements at n width from bytes s can =
    let Sound : Part → Type 0 = λ p. IsSoundPart plan.pointer step.task.size p
    (λ size. IsSound plan.pointer (inside plan step) can.levels size) in
    kind_width s.kind step.task.size (subst Sound s.part_is can.sound)

pub some_size : (size : ℕ) → IsTrue (is_width size) → 0 < size
some_size size width = grind (arith, nat_tests, width)

-- the numbers of the slice are those of the array
side_groups : (image : Image) (at n width : ℕ) (elements' : Elements) (from : Kind) (bytes : List ℕ)
    → (s : AreSideBySide image at n elements' from width bytes)
    → elements width bytes ≡ groups width n (drop (run_start image at s.run) image.bytes)
side_groups image at n width elements' from bytes s =
    let here = drop (run_start image at s.run) image.bytes in
    let some = some_size width (kind_width from width s.allowed) in
    let count : length bytes / width ≡ n = ap (λ (m : ℕ). m / width) (side_long image at n width elements' from bytes s)
    ∙ mul-div_cancel n some in
    ap (λ (m : ℕ). groups width m bytes) count ∙ ap (groups width n) s.are ∙ groups_take width n here

-- what the array of a step becomes
abbrev pub numbers_of : Planned → Image → Step → Kind → ℕ → List ℕ → List ℕ
numbers_of plan image step from width bytes = rewritten from plan.order step.task.size image.order width bytes

pub numbers_long : (plan : Planned) (image : Image) (step : Step) (elements : Elements) (at n width : ℕ) (from : Kind) (bytes : List ℕ)
    → AreSideBySide image at n elements from width bytes → length (numbers_of plan image step from width bytes) ≡ n * step.task.size
numbers_long plan image step elements at n width from bytes s =
    let f : List ℕ → List ℕ = λ e. digits plan.order step.task.size (number image.order from e) in
    ap (λ (l : List (List ℕ)). length (flat_map f l)) (side_groups image at n width elements from bytes s)
    ∙ length-groups f step.task.size width n (drop (run_start image at s.run) image.bytes)
    (λ e. length-digits plan.order step.task.size (number image.order from e))

pub numbers_moved : (plan : Planned) (image : Image) (step : Step) (elements : Elements) (at base n size width : ℕ) (from : Kind)
    (bytes out out' : List ℕ)
    → AreSideBySide image at n elements from width bytes → base + n * step.task.size ≤ length out
    → out' ≡ put_at base (numbers_of plan image step from width bytes) out
    → IsPut (list_moved plan image step elements at base n size) size out out'
numbers_moved plan image step elements at base n size width from bytes out out' s room put =
    let to = step.task.size in
    let machine = machine_in plan in
    let inside_at : ℕ → ℕ → ℕ → Pieces = λ s' t' later. moved image machine (inside plan step) s' t' later in
    let f : List ℕ → List ℕ = λ e. digits plan.order to (number image.order from e) in
    let start = run_start image at s.run in
    let Put : Part → Option Run → Type 0 = λ p r.
    IsPut (moved_elements (λ k later. moved_part image machine to p inside_at (source_place image at r k) (base + k * to) later)
    n 0 size) size out out' in
    let numbers : Put (part.Number s.kind from width) (Some s.run) =
    record {
      sized = numbers_size f base to width start s.run.stride image.bytes n 0 size;
      put = put
          ∙ ap (λ (l : List (List ℕ)). put_at base (flat_map f l) out) (side_groups image at n width elements from bytes s)
          ∙ sym (all_put f base to width start s.run.stride image.bytes n size out
          (λ e. length-digits plan.order to (number image.order from e)) room s.stride_is);
    } in
    subst (λ (p : Part). Put p elements.run) (sym s.part_is)
    (subst (λ (r : Option Run). Put (part.Number s.kind from width) r) (sym s.run_is) numbers)
