-- The size behind the blocks of a record that is made without a look at its steps is what the steps find.
use Rattle.std.proofs.Common.{◌≡◌, ℕ, zero, suc, ◌+◌, ◌-◌, ◌*◌, ◌^◌, ◌<◌, ◌≤◌, ℤ, pos, Bool, true, false, not, List, [], ◌∷◌, ◌++◌}
use Rattle.std.proofs.Common.{length, get_or, Some, Ok, refl, sym, ap, ◌∙◌, subst, arith}
use Rattle.std.specs.List.{All}
use Rattle.std.specs.Prelude.{nat_eq, slice_get}
use Rattle.std.proofs.lemmas.Bool.{lt-ltb, le-ltb}
use Rattle.std.proofs.lemmas.Bool.Decides.{nat_tests}
use Rattle.evp_base.specs.declared.kind.Kind.{Kind}
use Rattle.evp_base.specs.declared.kind.Kind.TheVariants.{Int, Unsigned, Char, Boolean, Enumeration}
use Rattle.evp_base.specs.declared.order.Order.{Order}
use Rattle.evp_base.specs.Numbers.{magnitude, number, twos_complement}
use Rattle.evp_base.proofs.Digits.{AreBytes}
use Rattle.evp_format.specs.Bytes.{bytes_at, next_block}
use Rattle.evp_format.specs.Converting.{Made, made, make_text, then_make, unless_unfit}
use Rattle.evp_format.specs.Datum.{Datum, num, null, text, list, rec}
use Rattle.evp_format.specs.declared.place.PlaceStep.{PlaceStep}
use Rattle.evp_format.specs.declared.place.PlaceStep.TheVariants.{At}
use Rattle.evp_format.specs.Viewing.{Image}
use Rattle.evp_format.specs.Zero.{as_count}
use Rattle.evp_plan.specs.declared.block.Array.{Array}
use Rattle.evp_plan.specs.declared.block.Block.{Block}
use Rattle.evp_plan.specs.declared.block.Block.TheVariants as block
use Rattle.evp_plan.specs.declared.block.Text.{Text as TextBlock}
use Rattle.evp_plan.specs.declared.step.Elements.{Elements}
use Rattle.evp_plan.specs.declared.step.Op.{Op}
use Rattle.evp_plan.specs.declared.step.Origin.TheVariants.{Standing}
use Rattle.evp_plan.specs.declared.step.Part.TheVariants as part
use Rattle.evp_plan.specs.declared.step.Run.{Run}
use Rattle.evp_plan.specs.declared.step.Step.{Step}
use Rattle.evp_plan.specs.Cells.{is_plain_kind}
use Rattle.evp_plan.specs.Laid.{block_steps, width_of, size_of, IsTextOf, IsArrayOf, IsBlockOf, AreBlocksOf, Laying, IsLaidOf}
use Rattle.evp_plan.specs.Measuring.{sized, tested}
use Rattle.evp_plan.specs.Planned.{Planned, measured_whole}
use Rattle.evp_plan.specs.Program.{program_at, program_of, programs, last_steps, IsOrdered}
use Rattle.evp_plan.specs.Quiet.{covers}
use Rattle.evp_plan.specs.Ready.{IsReady, IsOpThere}
use Rattle.evp_plan.specs.Sound.{IsSound, IsSoundOp}
use Rattle.evp_plan.specs.Standing.{text_by, origin_number}
use Rattle.evp_plan.proofs.QuietSteps.{length_cut}
use Rattle.evp_runner.specs.Outcome.{outcome, verdict, room_for}
use Rattle.evp_runner.specs.Passable.{TextPasses, StepPasses}
use Rattle.evp_runner.specs.Sizing.{IsBlockInside, text_end, numbers_end, count_of, EndsAt, AllEndAt}
use Rattle.evp_runner.specs.StepIn.{inside, CanRun, CanStep}
use Rattle.evp_runner.proofs.Measured.{rest_made}
use Rattle.evp_runner.proofs.Quieted.{tested_list, tests_made, tests_can}
use Rattle.evp_runner.proofs.QuickSizes.{text_passes, many_passes, list_passes}

-- ---- sizes rise

ends_more : (image : Image) (b : Block) (size end : ℕ) → EndsAt image b size end → size ≤ end
ends_more image (block.Text string) size end ends =
    let more = text_more (text_by image string.from) size in
    omega (arith, ends, more)
  where
    text_more : (d : Datum) (n : ℕ) → n ≤ text_end d n
    text_more null n = omega arith
    text_more (text bytes) n = omega arith
    text_more (num z) n = omega arith
    text_more (list elements) n = omega arith
    text_more (rec entries) n = omega arith
ends_more image (block.Array array) size end ends =
    let more = numbers_more (count_of image array) (size_of array.form) size in
    let is = ends.1 in
    omega (arith, is, more)
  where
    numbers_more : (n number_size size : ℕ) → size ≤ numbers_end n number_size size
    numbers_more zero number_size size = omega arith
    numbers_more (suc n) number_size size = omega arith

all_more : (image : Image) (blocks : List Block) (size end : ℕ) → AllEndAt image blocks size end → size ≤ end
all_more image [] size end ends = omega (arith, ends)
all_more image (first ∷ blocks) size end ends =
    let one = ends_more image first size ends.0 ends.1.0 in
    let rest = all_more image blocks ends.0 end ends.1.1 in
    omega (arith, one, rest)

-- ---- texts

text_made : (limit : ℕ) (place : List PlaceStep) (d : Datum) (size : ℕ) → text_end d size ≤ limit
    → sized (make_text limit place (Some d) size) ≡ made tt (text_end d size)
text_made limit place null size fits = refl
text_made limit place (text bytes) size fits = rw (le-ltb limit (next_block size + (length bytes + 1)) fits) refl
text_made limit place (num n) size fits = refl
text_made limit place (list elements) size fits = refl
text_made limit place (rec entries) size fits = refl

string_passes : (plan : Planned) (limit : ℕ) (image : Image) (step : Step) (string : TextBlock) (size end : ℕ) → IsTextOf string step
    → end ≡ text_end (text_by image string.from) size → end ≤ limit → StepPasses plan limit image step 0 size end
string_passes plan limit image step string size end of is fits =
    let here : 0 + string.from ≡ string.from = omega arith in
    let Passes : ℕ → Type 0 = λ s. TextPasses limit image s size end in
    text_passes plan limit image step 0 string.from size end of.op_is
    (subst Passes (sym here)
    (λ place. text_made limit place (text_by image string.from) size (omega (arith, is, fits)) ∙ ap (λ (n : ℕ). made tt n) (sym is)))

-- ---- arrays

small_is : (size n : ℕ) → size ≡ 4 → n < 2 ^ 31 → twos_complement size n ≡ pos n
small_is size n four small =
    let Is : ℕ → Type 0 = λ s. twos_complement s n ≡ pos n in
    subst Is (sym four) (rw (lt-ltb (2 * n) (2 ^ 32) (omega (arith, small))) refl)

-- a count of 4 bytes that isn't so great that it could be below 0
count_is : (order : Order) (kind : Kind) (bytes : List ℕ) → is_plain_kind kind ≡ true → length bytes ≡ 4 → magnitude order bytes < 2 ^ 31
    → number order kind bytes ≡ pos (magnitude order bytes)
count_is order Int bytes plain four small = small_is (length bytes) (magnitude order bytes) four small
count_is order Unsigned bytes plain four small = refl
count_is order Char bytes plain four small = refl
count_is order Boolean bytes plain four small = cc
count_is order Enumeration bytes plain four small = small_is (length bytes) (magnitude order bytes) four small

room_is : (limit n number_size size end : ℕ) → end ≡ numbers_end n number_size size → end ≤ limit
    → Some end ≡ room_for limit n number_size size
room_is limit zero number_size size end is fits = ap Some is
room_is limit (suc n) number_size size end is fits =
    rw (le-ltb limit (next_block size + suc n * number_size) (omega (arith, is, fits))) (ap Some is)

number_passes : (plan : Planned) (limit : ℕ) (image : Image) (step : Step) (array : Array) (size end : ℕ) → IsArrayOf array step
    → CanStep plan image step 0 0 → AreBytes image.bytes → count_of image array < 2 ^ 31
    → end ≡ numbers_end (count_of image array) (size_of array.form) size → end ≤ limit → StepPasses plan limit image step 0 size end
number_passes plan limit image step array size end of can are small is fits =
    let origin = Standing of.count in
    let run : Run = record { count = origin; pointed = true; offset = array.from; stride = width_of array.form } in
    let elements : Elements = record { part = part.Number of.kind of.from (width_of array.form); run = Some run } in
    let There : Op → Type 0 = λ o. IsOpThere image 0 o (λ s. IsReady image (inside plan step) s) in
    let Sound : Op → Type 0 = λ o. IsSoundOp plan.pointer can.length step.task.offset step.task.size o
    (λ n. IsSound plan.pointer (inside plan step) can.levels n) in
    let ready = subst There of.op_is can.ready in
    let sound = subst Sound of.op_is can.sound in
    let room = can.room in
    let n = count_of image array in
    let counted = of.counted in
    let place : 0 + of.count.offset ≡ array.count = omega (arith, counted) in
    let bytes : bytes_at (0 + of.count.offset) of.count.size image.bytes ≡ bytes_at array.count 4 image.bytes =
    ap (λ (s : ℕ). bytes_at s of.count.size image.bytes) place ∙ ap (λ (m : ℕ). bytes_at array.count m image.bytes) of.four in
    let four : length (bytes_at array.count 4 image.bytes) ≡ 4 =
    ap length (sym bytes) ∙ length_cut image.bytes (0 + of.count.offset) of.count.size ready.0.0 ∙ of.four in
    let wanted : origin_number image 0 origin ≡ pos n =
    ap (number image.order of.count.kind) bytes ∙ count_is image.order of.count.kind (bytes_at array.count 4 image.bytes) of.plain four small
    in
    let itself : not (nat_eq n n) ≡ false = grind (arith, nat_tests) in
    let same : false ≡ not (nat_eq (as_count (origin_number image 0 origin)) n) =
    sym (ap (λ (z : ℤ). not (nat_eq (as_count z) n)) wanted ∙ itself) in
    let quiet : covers of.kind step.task.size of.from (width_of array.form) ≡ true =
    ap (λ (s : ℕ). covers of.kind s of.from (width_of array.form)) of.size_is ∙ of.fits in
    let End : ℕ → Type 0 = λ s. Some end ≡ room_for limit n s size in
    many_passes plan limit image step 0 size end origin elements of.op_is
    (list_passes plan limit image step origin elements 0 n size end
    (record { ready = ready.1; levels = can.levels; room = omega (arith, room); sound = sound.1 })
    wanted same are quiet
    (subst End (sym of.size_is) (room_is limit n (size_of array.form) size end is fits)))

-- ---- blocks

block_passes : (plan : Planned) (limit : ℕ) (image : Image) (step : Step) (b : Block) (size end : ℕ) → IsBlockOf b step
    → CanStep plan image step 0 0 → AreBytes image.bytes → EndsAt image b size end → end ≤ limit
    → StepPasses plan limit image step 0 size end
block_passes plan limit image step (block.Text string) size end of can are ends fits =
    string_passes plan limit image step string size end of ends fits
block_passes plan limit image step (block.Array array) size end of can are ends fits =
    number_passes plan limit image step array size end of can are ends.0 ends.1 fits

abbrev CanEach : Planned → Image → List Step → Type 0
CanEach plan image steps = (k : ℕ) (step : Step) → slice_get steps k ≡ Some step → CanStep plan image step 0 0

-- what the steps of the blocks find
record Found (plan : Planned) (limit : ℕ) (image : Image) (steps : List Step) (size end : ℕ) : Type 0 where
  tests : tested image 0 (program_of (programs plan.table) steps) [] ≡ made tt 0
  sizes : rest_made plan limit image [] 0 steps size ≡ made tt end

all_found : (plan : Planned) (limit : ℕ) (image : Image) (blocks : List Block) (steps : List Step) (size end : ℕ)
    → AreBlocksOf blocks steps → CanEach plan image steps → AreBytes image.bytes → AllEndAt image blocks size end → end ≤ limit
    → Found plan limit image steps size end
all_found plan limit image [] [] size end of can are ends fits = record { tests = refl; sizes = ap (λ (n : ℕ). made tt n) (sym ends) }
all_found plan limit image [] (step ∷ steps) size end of can are ends fits = absurd of
all_found plan limit image (first ∷ blocks) [] size end of can are ends fits = absurd of
all_found plan limit image (first ∷ blocks) (step ∷ steps) size end of can are ends fits =
    let middle = ends.0 in
    let more = all_more image blocks middle end ends.1.1 in
    let passes = block_passes plan limit image step first size middle of.0 (can 0 step refl) are ends.1.0 (omega (arith, more, fits)) in
    let rest = all_found plan limit image blocks steps middle end of.1 (λ k s found. can (suc k) s found) are ends.1.1 fits in
    let place : List PlaceStep = [] ++ At step.task.field ∷ [] in
    record {
      tests = ap (λ (b : Bool). unless_unfit (not b) place (λ _. tested image 0 (program_of (programs plan.table) steps) [])) passes.fits
          ∙ rest.tests;
      sizes = ap (λ (m : Made (Unit {0})). then_make m (λ _ later. rest_made plan limit image [] 0 steps later)) (passes.sizes place)
          ∙ rest.sizes;
    }

-- ---- records

-- the blocks' steps can run
blocks_can : (plan : Planned) (image : Image) (from : Order) (laid : Laying) → IsOrdered plan.table → 1 ≤ length plan.table
    → IsLaidOf from plan.order (programs plan.table) (last_steps plan.table) laid
    → CanRun plan image (program_at plan.table (length plan.table - 1)) 0 0 → CanEach plan image (block_steps (last_steps plan.table))
blocks_can plan image from laid ordered some of can =
    let n = length plan.table - 1 in
    let steps = block_steps (last_steps plan.table) in
    tests_can plan image n steps 0 0 (tested_list plan n steps ordered (omega (arith, some)) (sym of.tests)) can

pub laid_found : (plan : Planned) (limit : ℕ) (image : Image) (from : Order) (laid : Laying) (blocks : List Block) (fixed size : ℕ)
    → IsOrdered plan.table → 1 ≤ length plan.table
    → IsLaidOf from plan.order (programs plan.table) (last_steps plan.table) laid
    → CanRun plan image (program_at plan.table (length plan.table - 1)) 0 0 → AreBytes image.bytes → blocks ≡ laid.blocks
    → fixed ≡ plan.fixed → AllEndAt image blocks fixed size → size ≤ limit → Ok size ≡ outcome (measured_whole plan image limit)
laid_found plan limit image from laid blocks fixed size ordered some of can are blocks_are fixed_is ends fits =
    let n = length plan.table - 1 in
    let steps = block_steps (last_steps plan.table) in
    let list = tested_list plan n steps ordered (omega (arith, some)) (sym of.tests) in
    let ByBlocks : List Block → Type 0 = λ bs. AreBlocksOf bs steps in
    let ByFixed : ℕ → Type 0 = λ f. AllEndAt image blocks f size in
    let found = all_found plan limit image blocks steps plan.fixed size (subst ByBlocks (sym blocks_are) of.blocks)
    (blocks_can plan image from laid ordered some of can) are (subst ByFixed fixed_is ends) fits in
    let more = all_more image blocks fixed size ends in
    rw (le-ltb limit plan.fixed (omega (arith, more, fits, fixed_is)))
    (sym (ap outcome (tests_made plan limit image [] 0 n 0 steps plan.fixed list can are (ap verdict found.tests) ∙ found.sizes)))

block_inside : (plan : Planned) (image : Image) (step : Step) (b : Block) → IsBlockOf b step → CanStep plan image step 0 0
    → image.pointer ≡ 8 → IsBlockInside image.bytes b
block_inside plan image step (block.Text string) of can eight =
    let There : Op → Type 0 = λ o. IsOpThere image 0 o (λ s. IsReady image (inside plan step) s) in
    let there = (subst There of.op_is can.ready).0 in
    omega (arith, there, eight)
block_inside plan image step (block.Array array) of can eight =
    let There : Op → Type 0 = λ o. IsOpThere image 0 o (λ s. IsReady image (inside plan step) s) in
    let there = (subst There of.op_is can.ready).0.0 in
    let counted = of.counted in
    let four = of.four in
    omega (arith, there, counted, four)

each_inside : (plan : Planned) (image : Image) (blocks : List Block) (steps : List Step) → AreBlocksOf blocks steps
    → CanEach plan image steps → image.pointer ≡ 8 → (k : ℕ) (d : Block) → k < length blocks
    → IsBlockInside image.bytes (get_or blocks k d)
each_inside plan image [] steps of can eight k d below = absurd (omega (arith, below))
each_inside plan image (first ∷ blocks) [] of can eight k d below = absurd of
each_inside plan image (first ∷ blocks) (step ∷ steps) of can eight zero d below =
    block_inside plan image step first of.0 (can 0 step refl) eight
each_inside plan image (first ∷ blocks) (step ∷ steps) of can eight (suc k) d below =
    each_inside plan image blocks steps of.1 (λ i s found. can (suc i) s found) eight k d (omega (arith, below))

-- what the loop reads stands inside the bytes
pub laid_inside : (plan : Planned) (image : Image) (from : Order) (laid : Laying) → IsOrdered plan.table → 1 ≤ length plan.table
    → IsLaidOf from plan.order (programs plan.table) (last_steps plan.table) laid
    → CanRun plan image (program_at plan.table (length plan.table - 1)) 0 0 → image.pointer ≡ 8
    → All (IsBlockInside image.bytes) laid.blocks
laid_inside plan image from laid ordered some of can eight =
    each_inside plan image laid.blocks (block_steps (last_steps plan.table)) of.blocks (blocks_can plan image from laid ordered some of can)
    eight
