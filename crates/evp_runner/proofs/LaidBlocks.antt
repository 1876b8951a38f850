-- A text or an array of numbers laid behind a front.
use Rattle.std.proofs.Common.{◌≡◌, ◌≢◌, ℕ, zero, suc, Option, Some, None, ◌+◌, ◌-◌, ◌*◌, ◌/◌, ◌^◌, ◌<◌, ◌≤◌, pos, List, [], ◌∷◌, ◌++◌, length, take, drop}
use Rattle.std.proofs.Common.{true, refl, sym, ap, ◌∙◌, subst, arith}
use Rattle.std.specs.Prelude.{replicate, ⊤}
use Rattle.std.proofs.Math.Nat.{mul-div_cancel}
use Rattle.std.proofs.lemmas.List.{length-take-le, length-drop, append_assoc}
use Rattle.evp_base.specs.declared.kind.Kind.TheVariants.{Int}
use Rattle.evp_base.specs.declared.order.Order.{Order}
use Rattle.evp_base.specs.Numbers.{digits, magnitude, number}
use Rattle.evp_base.proofs.Numbers.{length-digits}
use Rattle.evp_format.specs.Bytes.{bytes_at, put_at, next_block}
use Rattle.evp_format.specs.Datum.{null, text}
use Rattle.evp_format.specs.Viewing.{Image, pointer_at}
use Rattle.evp_format.specs.Zero.{as_count}
use Rattle.evp_plan.specs.declared.block.Array.{Array}
use Rattle.evp_plan.specs.declared.block.Form.{Form}
use Rattle.evp_plan.specs.declared.block.Form.TheVariants.{TwoToEight, FourToEight, TwoToFour}
use Rattle.evp_plan.specs.declared.block.Block.TheVariants as block
use Rattle.evp_plan.specs.declared.block.Text.{Text as TextBlock}
use Rattle.evp_plan.specs.declared.step.Op.{Op}
use Rattle.evp_plan.specs.declared.step.Origin.TheVariants.{Standing}
use Rattle.evp_plan.specs.declared.step.Part.TheVariants as part
use Rattle.evp_plan.specs.declared.step.Run.{Run}
use Rattle.evp_plan.specs.declared.step.Step.{Step}
use Rattle.evp_plan.specs.Laid.{IsTextOf, IsArrayOf, width_of, size_of}
use Rattle.evp_plan.specs.Moving.{moved}
use Rattle.evp_plan.specs.Planned.{Planned, machine_in}
use Rattle.evp_plan.specs.Program.{programs}
use Rattle.evp_plan.specs.Ready.{IsOpThere, IsReady, IsRunThere}
use Rattle.evp_plan.specs.Standing.{text_by, text_from, origin_number}
use Rattle.evp_wide.specs.Elements.{rewritten}
use Rattle.evp_wide.specs.Zeros.{IsZeroBehind, IsFrontWith}
use Rattle.evp_plan.specs.LaidOn.{laid_block, IsLaidOn}
use Rattle.evp_runner.specs.Laying.{block_moved, AreOrders, CanLay, IsBlockLaid}
use Rattle.evp_runner.specs.StepIn.{inside}
use Rattle.evp_plan.proofs.LaidFronts.{step_laid, text_laid, null_laid, array_count, array_laid, none_laid}
use Rattle.evp_runner.proofs.LaidBytes.{block_taken, laid_long, none_taken, block_behind, text_is}
use Rattle.evp_runner.proofs.Moved.{grows_op, grows_moved}
use Rattle.evp_plan.proofs.NumbersPut.{length-groups}
use Rattle.evp_runner.proofs.SideBySide.{numbers_end}
pub use Rattle.evp_runner.proofs.SideBySide.{some_size}

pub pointer_is : (image : Image) (order : Order) (s from : ℕ) → order ≡ image.order → image.pointer ≡ 8
    → from ≡ magnitude order (bytes_at s 8 image.bytes) → from ≡ pointer_at image s
pointer_is image order s from order_is eight is =
    is ∙ ap (λ (o : Order). magnitude o (bytes_at s 8 image.bytes)) order_is
    ∙ ap (λ (n : ℕ). magnitude image.order (bytes_at s n image.bytes)) (sym eight)

-- the front is inside
pub front_inside : (plan : Planned) (image : Image) (step : Step) (size total : ℕ) → (block_moved plan image step size).size ≤ total → size ≤ total
front_inside plan image step size total fits =
    let grows = grows_op image (machine_in plan) step.task.size step.task.op
    (λ s t later. moved image (machine_in plan) (inside plan step) s t later)
    (λ s t later. grows_moved image (machine_in plan) (inside plan step) s t later) 0 step.task.offset size in
    omega (arith, grows, fits)

laid_as : (plan : Planned) (image : Image) (step : Step) (size end : ℕ) (old new target : List ℕ) → size ≤ length old → end ≤ length new
    → take end new ≡ target
    → IsLaidOn (step_laid (programs plan.table) image (machine_in plan) step (length (take size old))) (take size old) target
    → IsBlockLaid (block_moved plan image step size) size end old new
laid_as plan image step size end old new target inside_old within same made =
    let On : ℕ → Type 0 = λ n. IsLaidOn (step_laid (programs plan.table) image (machine_in plan) step n) (take size old) target in
    let On' : List ℕ → Type 0 = λ l. IsLaidOn (block_moved plan image step size) (take size old) l in
    record { within = within; laid = subst On' (sym same) (subst On (length-take-le size old inside_old) made) }

-- ---- texts

-- what a text reads and writes is inside
pub record TextFacts (image : Image) (text : TextBlock) (size total : ℕ) : Type 0 where
  pub from : text.from + 8 ≤ length image.bytes
  pub to : text.to + 8 ≤ size
  pub front : size ≤ total

pub text_facts : (plan : Planned) (image : Image) (order to_order : Order) (text : TextBlock) (size total : ℕ)
    → AreOrders plan image order to_order → CanLay plan image (block.Text text) size total → TextFacts image text size total
text_facts plan image order to_order text' size total orders can =
    let is : IsTextOf text' can.step = can.is in
    let There : Op → Type 0 = λ o. IsOpThere image 0 o (λ s. IsReady image (inside plan can.step) s) in
    let there = (subst There is.op_is can.ready).0 in
    let eight = orders.from_pointer in
    let pointed = can.pointed in
    let to = is.to_is in
    record {
      from = omega (arith, there, eight);
      to = omega (arith, pointed, to);
      front = front_inside plan image can.step size total can.fits;
    }

pub text_put : (plan : Planned) (image : Image) (order to_order : Order) (text' : TextBlock) (size from q count : ℕ) (old out new : List ℕ)
    → AreOrders plan image order to_order → (can : CanLay plan image (block.Text text') size (length old))
    → from ≡ magnitude order (bytes_at text'.from 8 image.bytes) → from ≢ 0 → q ≡ next_block size → IsZeroBehind image.bytes from count
    → q + (count + 1) ≤ length old → length out ≡ length old → length new ≡ length old
    → IsFrontWith size q (count + 1) (drop from image.bytes) old out → new ≡ put_at text'.to (digits to_order 8 (pos q)) out
    → IsBlockLaid (block_moved plan image can.step size) size (q + count + 1) old new
text_put plan image order to_order text' size from q count old out new orders can from_is some q_is behind room out_long new_long made pointed =
    let machine = machine_in plan in
    let facts = text_facts plan image order to_order text' size (length old) orders can in
    let to = facts.to in
    let front = take size old in
    let bytes = take count (drop from image.bytes) in
    let zeros = replicate {A = ℕ} (q - size) 0 in
    let end = q + count + 1 in
    let same : end ≡ q + (count + 1) = omega arith in
    let with_zero = block_behind image.bytes from count behind in
    let within = behind.within in
    let left = length-drop from image.bytes in
    let long : length (bytes ++ 0 ∷ []) ≡ count + 1 =
    ap length (sym with_zero) ∙ length-take-le (count + 1) (drop from image.bytes) (omega (arith, within, left)) in
    let front_is : take end out ≡ front ++ zeros ++ (bytes ++ 0 ∷ []) =
    ap (λ (n : ℕ). take n out) same ∙ made ∙ ap (λ (l : List ℕ). front ++ (zeros ++ l)) with_zero
    ∙ sym (append_assoc front zeros (bytes ++ 0 ∷ [])) in
    let taken = block_taken machine text'.to size q end (bytes ++ 0 ∷ []) old out new facts.front facts.to q_is (omega (arith, long))
    (omega (arith, room, out_long)) front_is (pointed ∙ ap (λ (o : Order). put_at text'.to (digits o 8 (pos q)) out) orders.to) in
    let seen : text_by image text'.from ≡ text bytes =
    ap (text_from image) (sym (pointer_is image order text'.from from orders.from orders.from_pointer from_is))
    ∙ text_is image from count some behind in
    let front_long = length-take-le size old facts.front in
    laid_as plan image can.step size end old new (laid_block machine text'.to front (bytes ++ 0 ∷ [])) facts.front
    (omega (arith, room, new_long)) taken
    (text_laid (programs plan.table) image machine can.step text' bytes front orders.to_pointer can.is seen (omega (arith, to, front_long)))

-- what is answered where a sender's word is 0, and where it isn't
pub laid_none : (Laid : Option ℕ → Type 0) (Pointed : Type 0) (word size : ℕ) (result : Option ℕ)
    → (word ≡ 0 → (result ≡ Some size) × Pointed) → ((word ≡ 0 → ⊥) → result ≡ None) → (word ≡ 0 → Pointed → Laid (Some size))
    → Laid None → Laid result
laid_none Laid Pointed zero size result empty other laid none = let made = empty refl in subst Laid (sym made.0) (laid refl made.1)
laid_none Laid Pointed (suc n) size result empty other laid none = subst Laid (sym (other (λ is. omega (arith, is)))) none

pub null_put : (plan : Planned) (image : Image) (order to_order : Order) (text' : TextBlock) (size from : ℕ) (old new : List ℕ)
    → AreOrders plan image order to_order → (can : CanLay plan image (block.Text text') size (length old))
    → from ≡ magnitude order (bytes_at text'.from 8 image.bytes) → from ≡ 0 → length new ≡ length old
    → new ≡ put_at text'.to (digits to_order 8 (pos 0)) old
    → IsBlockLaid (block_moved plan image can.step size) size size old new
null_put plan image order to_order text' size from old new orders can from_is none new_long pointed =
    let machine = machine_in plan in
    let facts = text_facts plan image order to_order text' size (length old) orders can in
    let to = facts.to in
    let inside_old = facts.front in
    let front_long = length-take-le size old facts.front in
    let seen : text_by image text'.from ≡ null =
    ap (text_from image) (sym (pointer_is image order text'.from from orders.from orders.from_pointer from_is) ∙ none) in
    laid_as plan image can.step size size old new (put_at text'.to (replicate 8 0) (take size old)) facts.front
    (omega (arith, inside_old, new_long))
    (none_taken machine text'.to size old new facts.front facts.to
    (pointed ∙ ap (λ (o : Order). put_at text'.to (digits o 8 (pos 0)) old) orders.to))
    (null_laid (programs plan.table) image machine can.step text' (take size old) orders.to_pointer can.is seen
    (omega (arith, to, front_long)))

-- ---- arrays

-- what an array reads and writes is inside
pub record ArrayFacts (image : Image) (array : Array) (size total : ℕ) : Type 0 where
  pub count : array.count + 4 ≤ length image.bytes
  pub from : array.from + 8 ≤ length image.bytes
  pub to : array.to + 8 ≤ size
  pub front : size ≤ total

pub array_facts : (plan : Planned) (image : Image) (order to_order : Order) (array : Array) (size total : ℕ)
    → AreOrders plan image order to_order → CanLay plan image (block.Array array) size total → ArrayFacts image array size total
array_facts plan image order to_order array size total orders can =
    let is : IsArrayOf array can.step = can.is in
    let There : Op → Type 0 = λ o. IsOpThere image 0 o (λ s. IsReady image (inside plan can.step) s) in
    let there = subst There is.op_is can.ready in
    let counted = there.0.0 in
    let begins = there.1.begins in
    let eight = orders.from_pointer in
    let pointed = can.pointed in
    let to = is.to_is in
    let offset = is.counted in
    let four = is.four in
    record {
      count = omega (arith, counted, offset, four);
      from = omega (arith, begins, eight);
      to = omega (arith, pointed, to);
      front = front_inside plan image can.step size total can.fits;
    }

pub some_width : (form : Form) → 0 < width_of form
some_width TwoToEight = omega arith
some_width FourToEight = omega arith
some_width TwoToFour = omega arith

pub rewritten_long : (to_order order : Order) (to_size width n : ℕ) (bytes : List ℕ) → length bytes ≡ n * width → 0 < width
    → length (rewritten Int to_order to_size order width bytes) ≡ n * to_size
rewritten_long to_order order to_size width n bytes long some =
    let f : List ℕ → List ℕ = λ e. digits to_order to_size (number order Int e) in
    let count : length bytes / width ≡ n = ap (λ (m : ℕ). m / width) long ∙ mul-div_cancel n some in
    length-groups f to_size width (length bytes / width) bytes (λ e. length-digits to_order to_size (number order Int e))
    ∙ ap (λ (m : ℕ). m * to_size) count

-- what is known of an array of n numbers
pub record NumbersFacts (plan : Planned) (image : Image) (step : Step) (array : Array) (size total n : ℕ) (old : List ℕ) : Type 0 where
  pub within : pointer_at image array.from + n * width_of array.form ≤ length image.bytes
  pub long : length (rewritten Int plan.order (size_of array.form) image.order (width_of array.form)
      (take (n * width_of array.form) (drop (pointer_at image array.from) image.bytes))) ≡ n * size_of array.form
  pub room : next_block size + n * size_of array.form ≤ total
  pub laid : IsLaidOn (step_laid (programs plan.table) image (machine_in plan) step (length (take size old))) (take size old)
      (laid_block (machine_in plan) array.to (take size old)
      (rewritten Int plan.order (size_of array.form) image.order (width_of array.form)
      (take (n * width_of array.form) (drop (pointer_at image array.from) image.bytes))))

pub count_is : (plan : Planned) (image : Image) (order to_order : Order) (array : Array) (size total n : ℕ)
    → AreOrders plan image order to_order → (can : CanLay plan image (block.Array array) size total)
    → n ≡ magnitude order (bytes_at array.count 4 image.bytes) → n < 2 ^ 31
    → as_count (origin_number image 0 (Standing can.is.count)) ≡ n
count_is plan image order to_order array size total n orders can is small =
    let facts = array_facts plan image order to_order array size total orders can in
    let same : n ≡ magnitude image.order (bytes_at array.count 4 image.bytes) =
    is ∙ ap (λ (o : Order). magnitude o (bytes_at array.count 4 image.bytes)) orders.from in
    array_count image array can.step can.is facts.count (subst (λ (m : ℕ). m < 2 ^ 31) same small) ∙ sym same

pub numbers_facts : (plan : Planned) (image : Image) (order to_order : Order) (array : Array) (size n : ℕ) (old : List ℕ)
    → AreOrders plan image order to_order → (can : CanLay plan image (block.Array array) size (length old))
    → n ≡ magnitude order (bytes_at array.count 4 image.bytes) → n < 2 ^ 31 → 0 < n
    → NumbersFacts plan image can.step array size (length old) n old
numbers_facts plan image order to_order array size n old orders can is small some =
    let block_is : IsArrayOf array can.step = can.is in
    let machine = machine_in plan in
    let facts = array_facts plan image order to_order array size (length old) orders can in
    let count = count_is plan image order to_order array size (length old) n orders can is small in
    let There : Op → Type 0 = λ o. IsOpThere image 0 o (λ s. IsReady image (inside plan can.step) s) in
    let there = (subst There block_is.op_is can.ready).1 in
    let run : Run = record {
      count = Standing block_is.count;
      pointed = true;
      offset = array.from;
      stride = width_of array.form;
    } in
    let numbers : IsRunThere image 0 (part.Number block_is.kind block_is.from (width_of array.form)) (λ s. ⊤) run =
    record { counted = there.counted; begins = there.begins; within = there.within; each = there.each } in
    let here : 0 + array.from ≡ array.from = omega arith in
    let ended = numbers_end image 0 n (width_of array.form) block_is.kind block_is.from run numbers (omega (arith, count))
    (λ none. omega (arith, none, some)) refl in
    let within : pointer_at image array.from + n * width_of array.form ≤ length image.bytes =
    subst (λ (m : ℕ). pointer_at image m + n * width_of array.form ≤ length image.bytes) here ended in
    let start = drop (pointer_at image array.from) image.bytes in
    let left = length-drop (pointer_at image array.from) image.bytes in
    let bytes_long = length-take-le (n * width_of array.form) start (omega (arith, left, within)) in
    let long = rewritten_long plan.order image.order (size_of array.form) (width_of array.form) n (take (n * width_of array.form) start)
    bytes_long (some_width array.form) in
    let to = facts.to in
    let front_long = length-take-le size old facts.front in
    let laid = array_laid (programs plan.table) image machine can.step array n (take size old) orders.to_pointer can.is count some within
    (omega (arith, to, front_long)) in
    let whole = laid_long machine array.to size (rewritten Int plan.order (size_of array.form) image.order (width_of array.form)
    (take (n * width_of array.form) start)) old facts.front facts.to in
    let sized : (block_moved plan image can.step size).size ≡ next_block size + n * size_of array.form =
    ap (λ (m : ℕ). (block_moved plan image can.step m).size) (sym front_long) ∙ laid.sized ∙ whole
    ∙ ap (λ (m : ℕ). next_block size + m) long in
    let fits = can.fits in
    record { within = within; long = long; room = omega (arith, sized, fits); laid = laid }

pub numbers_put : (plan : Planned) (image : Image) (order to_order : Order) (array : Array) (size s q n width to_size : ℕ)
    (old out new : List ℕ)
    → AreOrders plan image order to_order → (can : CanLay plan image (block.Array array) size (length old))
    → n ≡ magnitude order (bytes_at array.count 4 image.bytes) → n < 2 ^ 31 → 0 < n
    → width ≡ width_of array.form → to_size ≡ size_of array.form
    → s ≡ magnitude order (bytes_at array.from 8 image.bytes) → q ≡ next_block size → length out ≡ length old → length new ≡ length old
    → take (next_block size + n * to_size) out ≡ take size old ++ replicate (next_block size - size) 0
    ++ rewritten Int to_order to_size order width (take (n * width) (drop s image.bytes))
    → new ≡ put_at array.to (digits to_order 8 (pos q)) out
    → IsBlockLaid (block_moved plan image can.step size) size (q + n * to_size) old new
numbers_put plan image order to_order array size s q n width to_size old out new orders can count small some width_is size_is s_is q_is
    out_long new_long made pointed =
    let machine = machine_in plan in
    let facts = array_facts plan image order to_order array size (length old) orders can in
    let known = numbers_facts plan image order to_order array size n old orders can count small some in
    let front = take size old in
    let start = pointer_is image order array.from s orders.from orders.from_pointer s_is in
    let block = rewritten Int plan.order (size_of array.form) image.order (width_of array.form)
    (take (n * width_of array.form) (drop (pointer_at image array.from) image.bytes)) in
    let same : rewritten Int to_order to_size order width (take (n * width) (drop s image.bytes)) ≡ block =
    ap (λ (o : Order). rewritten Int o to_size order width (take (n * width) (drop s image.bytes))) orders.to
    ∙ ap (λ (m : ℕ). rewritten Int plan.order m order width (take (n * width) (drop s image.bytes))) size_is
    ∙ ap (λ (o : Order). rewritten Int plan.order (size_of array.form) o width (take (n * width) (drop s image.bytes))) orders.from
    ∙ ap (λ (m : ℕ). rewritten Int plan.order (size_of array.form) image.order m (take (n * m) (drop s image.bytes))) width_is
    ∙ ap (λ (m : ℕ). rewritten Int plan.order (size_of array.form) image.order (width_of array.form)
    (take (n * width_of array.form) (drop m image.bytes))) start in
    let end = q + n * to_size in
    let total : n * to_size ≡ n * size_of array.form = ap (λ (m : ℕ). n * m) size_is in
    let room = known.room in
    let long = known.long in
    let end_is : end ≡ next_block size + n * to_size = omega (arith, q_is) in
    let front_is : take end out ≡ front ++ replicate (q - size) 0 ++ block =
    ap (λ (m : ℕ). take m out) end_is ∙ made ∙ ap (λ (l : List ℕ). front ++ replicate (next_block size - size) 0 ++ l) same
    ∙ ap (λ (m : ℕ). front ++ replicate (m - size) 0 ++ block) (sym q_is) in
    let taken = block_taken machine array.to size q end block old out new facts.front facts.to q_is (omega (arith, long, total))
    (omega (arith, room, out_long, end_is, total)) front_is
    (pointed ∙ ap (λ (o : Order). put_at array.to (digits o 8 (pos q)) out) orders.to) in
    laid_as plan image can.step size end old new (laid_block machine array.to front block) facts.front
    (omega (arith, room, new_long, end_is, total)) taken known.laid

pub none_put : (plan : Planned) (image : Image) (order to_order : Order) (array : Array) (size n : ℕ) (old new : List ℕ)
    → AreOrders plan image order to_order → (can : CanLay plan image (block.Array array) size (length old))
    → n ≡ magnitude order (bytes_at array.count 4 image.bytes) → n ≡ 0 → length new ≡ length old
    → new ≡ put_at array.to (digits to_order 8 (pos 0)) old
    → IsBlockLaid (block_moved plan image can.step size) size size old new
none_put plan image order to_order array size n old new orders can count none new_long pointed =
    let machine = machine_in plan in
    let facts = array_facts plan image order to_order array size (length old) orders can in
    let to = facts.to in
    let inside_old = facts.front in
    let front_long = length-take-le size old facts.front in
    let counted = count_is plan image order to_order array size (length old) n orders can count (omega (arith, none)) in
    laid_as plan image can.step size size old new (put_at array.to (replicate 8 0) (take size old)) facts.front
    (omega (arith, inside_old, new_long))
    (none_taken machine array.to size old new facts.front facts.to
    (pointed ∙ ap (λ (o : Order). put_at array.to (digits o 8 (pos 0)) old) orders.to))
    (none_laid (programs plan.table) image machine can.step array (take size old) orders.to_pointer can.is (counted ∙ none)
    (omega (arith, to, front_long)))
