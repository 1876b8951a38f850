-- Blocks put one behind another: each makes a front of a record longer, with zeros behind it.
use Rattle.std.proofs.Common.{◌≡◌, ℕ, zero, suc, ◌+◌, ◌-◌, ◌*◌, ◌^◌, ◌<◌, ◌≤◌, min, pos, true, List, [], ◌∷◌, ◌++◌, length, take, drop}
use Rattle.std.proofs.Common.{Some, refl, sym, ap, ◌∙◌, subst, arith}
use Rattle.std.specs.Prelude.{replicate}
use Rattle.std.specs.List.{flat_map}
use Rattle.std.proofs.lemmas.Bool.{lt-ltb}
use Rattle.std.proofs.lemmas.List.{length-take, length-drop, length-append, length-replicate, append-nil, append_assoc, take-append-drop}
use Rattle.std.proofs.lemmas.List.{drop-drop}
use Rattle.evp_base.specs.declared.kind.Kind.{Kind}
use Rattle.evp_base.specs.declared.kind.Kind.TheVariants.{Int, Unsigned, Char, Boolean, Enumeration}
use Rattle.evp_base.specs.declared.order.Order.{Order}
use Rattle.evp_base.specs.declared.order.Order.TheVariants.{Little, Big}
use Rattle.evp_base.specs.Numbers.{magnitude, number, twos_complement, digits}
use Rattle.evp_base.proofs.Numbers.{length-digits}
use Rattle.evp_format.specs.Bytes.{bytes_at, next_block, put_at}
use Rattle.evp_format.specs.Datum.{Datum, null, text}
use Rattle.evp_format.specs.Packing.{Piece, Pieces, Machine, then_pack, pack_text, put_pieces}
use Rattle.evp_format.specs.Viewing.{Image, pointer_at}
use Rattle.evp_format.specs.Zero.{as_count}
use Rattle.evp_wide.specs.Elements.{rewritten}
use Rattle.evp_wide.specs.Groups.{groups}
use Rattle.evp_plan.specs.declared.block.Array.{Array}
use Rattle.evp_plan.specs.declared.block.Form.{Form}
use Rattle.evp_plan.specs.declared.block.Form.TheVariants.{TwoToEight, FourToEight, TwoToFour}
use Rattle.evp_plan.specs.declared.block.Text.{Text as TextBlock}
use Rattle.evp_plan.specs.declared.step.Elements.{Elements}
use Rattle.evp_plan.specs.declared.step.Op.{Op}
use Rattle.evp_plan.specs.declared.step.Op.TheVariants.{Text, Many}
use Rattle.evp_plan.specs.declared.step.Origin.TheVariants.{Standing}
use Rattle.evp_plan.specs.declared.step.Part.TheVariants as part
use Rattle.evp_plan.specs.declared.step.Step.{Step}
use Rattle.evp_plan.specs.Cells.{is_plain_kind}
use Rattle.evp_plan.specs.Laid.{width_of, size_of, is_signed, IsTextOf, IsArrayOf}
use Rattle.evp_plan.specs.LaidOn.{laid_block, IsLaidOn}
use Rattle.evp_plan.specs.Moving.{moved, moved_op, moved_many, moved_element, moved_elements}
use Rattle.evp_plan.specs.Program.{Program, inner_program, program_of}
use Rattle.evp_plan.specs.Standing.{origin_number, text_by}
use Rattle.evp_plan.proofs.NumbersPut.{number_piece, numbers_size, all_put, first_groups, length-groups}
use Rattle.evp_plan.proofs.Painted.{put_pieces-append}
use Rattle.evp_plan.proofs.PutAt.{put_long, put_front, block_put}

-- what a step of the record at 0 puts, its blocks from a size on
abbrev pub step_laid : List Program → Image → Machine → Step → ℕ → Pieces
step_laid programs image machine step size =
    moved_op image machine step.task.size step.task.op
    (λ s t later. moved image machine (inner_program programs step.inner) s t later) 0 step.task.offset size

-- ---- lists of steps

-- one step more
pub moved_next : (programs : List Program) (image : Image) (machine : Machine) (steps : List Step) (step : Step) (size : ℕ)
    → moved image machine (program_of programs (steps ++ step ∷ [])) 0 0 size
    ≡ then_pack (moved image machine (program_of programs steps) 0 0 size) (λ later. step_laid programs image machine step later)
moved_next programs image machine [] step size =
    let one : ℕ → Pieces = λ t. moved_op image machine step.task.size step.task.op
    (λ s t' later. moved image machine (inner_program programs step.inner) s t' later) 0 t size in
    let here : 0 + step.task.offset ≡ step.task.offset = omega arith in
    let last : Pieces → Pieces = λ p. record { all = p.all ++ []; size = p.size } in
    let alone : List Piece → Pieces = λ pieces. record { all = pieces; size = (one step.task.offset).size } in
    ap (λ (t : ℕ). last (one t)) here ∙ ap alone (append-nil (one step.task.offset).all)
moved_next programs image machine (first ∷ steps) step size =
    let one = moved_op image machine first.task.size first.task.op
    (λ s t later. moved image machine (inner_program programs first.inner) s t later) 0 (0 + first.task.offset) size in
    let others = moved image machine (program_of programs steps) 0 0 one.size in
    let last = step_laid programs image machine step others.size in
    let with_rest : Pieces → Pieces = λ p. record { all = one.all ++ p.all; size = p.size } in
    let with_all : List Piece → Pieces = λ pieces. record { all = pieces; size = last.size } in
    ap with_rest (moved_next programs image machine steps step one.size)
    ∙ ap with_all (sym (append_assoc one.all others.all last.all))

pub laid_none : (programs : List Program) (image : Image) (machine : Machine) (front : List ℕ)
    → IsLaidOn (moved image machine (program_of programs []) 0 0 (length front)) front front
laid_none programs image machine front = record { sized = refl; grows = omega arith; put = λ n room. refl }

-- what is put behind what was put
laid_then : (first : Pieces) (rest : ℕ → Pieces) (start front new : List ℕ) → IsLaidOn first start front
    → IsLaidOn (rest (length front)) front new → IsLaidOn (then_pack first rest) start new
laid_then first rest start front new before here =
    let grew = before.grows in
    let grows = here.grows in
    record {
      sized = ap (λ (m : ℕ). (rest m).size) before.sized ∙ here.sized;
      grows = omega (arith, grew, grows);
      put = λ n room.
          put_pieces-append first.all (rest first.size).all (start ++ replicate (n - length start) 0)
          ∙ ap (put_pieces (rest first.size).all) (before.put n (omega (arith, grows, room)))
          ∙ ap (λ (m : ℕ). put_pieces (rest m).all (front ++ replicate (n - length front) 0)) before.sized ∙ here.put n room;
    }

pub laid_next : (programs : List Program) (image : Image) (machine : Machine) (steps : List Step) (step : Step) (size : ℕ)
    (start front new : List ℕ) → IsLaidOn (moved image machine (program_of programs steps) 0 0 size) start front
    → IsLaidOn (step_laid programs image machine step (length front)) front new
    → IsLaidOn (moved image machine (program_of programs (steps ++ step ∷ [])) 0 0 size) start new
laid_next programs image machine steps step size start front new before here =
    subst (λ (p : Pieces). IsLaidOn p start new) (sym (moved_next programs image machine steps step size))
    (laid_then (moved image machine (program_of programs steps) 0 0 size) (λ later. step_laid programs image machine step later)
    start front new before here)

-- ---- a pointer, and a block at q

by_block : (to q after : ℕ) (pointer pointer' front block : List ℕ) (rest : List Piece) → pointer ≡ pointer' → length pointer' ≡ 8
    → to + 8 ≤ length front → length front ≤ q → after ≡ q + length block
    → ((out : List ℕ) → q + length block ≤ length out → put_pieces rest out ≡ put_at q block out)
    → IsLaidOn (record { all = record { at = to; bytes = pointer } ∷ rest; size = after }) front
    (put_at to pointer' front ++ replicate (q - length front) 0 ++ block)
by_block to q after pointer pointer' front block rest same eight room behind sized puts =
    let gap : List ℕ = replicate (q - length front) 0 in
    let pointed = put_at to pointer' front in
    let fits : to + length pointer' ≤ length front = omega (arith, eight, room) in
    let pointed_long : length pointed ≡ length front = put_long to pointer' front fits in
    let gap_long = length-replicate {A = ℕ} (q - length front) 0 in
    let first = length-append pointed gap in
    let both = length-append (pointed ++ gap) block in
    let long : length (pointed ++ gap ++ block) ≡ q + length block = omega (arith, pointed_long, gap_long, first, both, behind) in
    record {
      sized = sized ∙ sym long;
      grows = omega (arith, long, behind);
      put = λ n enough.
          (let base : List ℕ = front ++ replicate (n - length front) 0 in
          let zeros_long = length-replicate {A = ℕ} (n - length front) 0 in
          let base_long = length-append front (replicate (n - length front) 0) in
          let on = put_front to pointer' front (replicate (n - length front) 0) fits in
          let put_grown = length-append pointed (replicate (n - length front) 0) in
          let on_long : length (put_at to pointer' base) ≡ n =
          ap length on ∙ omega (arith, put_grown, pointed_long, zeros_long, enough, long, behind) in
          ap (λ (p : List ℕ). put_pieces rest (put_at to p base)) same
          ∙ puts (put_at to pointer' base) (omega (arith, on_long, enough, long))
          ∙ block_put to q n pointer' front block fits behind (omega (arith, enough, long))
          ∙ ap (λ (m : ℕ). (pointed ++ gap ++ block) ++ replicate (n - m) 0) (sym long));
    }

-- a pointer alone
by_none : (to after : ℕ) (pointer pointer' front : List ℕ) → pointer ≡ pointer' → length pointer' ≡ 8 → to + 8 ≤ length front
    → after ≡ length front
    → IsLaidOn (record { all = record { at = to; bytes = pointer } ∷ []; size = after }) front (put_at to pointer' front)
by_none to after pointer pointer' front same eight room sized =
    let fits : to + length pointer' ≤ length front = omega (arith, eight, room) in
    let long : length (put_at to pointer' front) ≡ length front = put_long to pointer' front fits in
    record {
      sized = sized ∙ sym long;
      grows = omega (arith, long);
      put = λ n enough.
          ap (λ (p : List ℕ). put_at to p (front ++ replicate (n - length front) 0)) same
          ∙ put_front to pointer' front (replicate (n - length front) 0) fits
          ∙ ap (λ (m : ℕ). put_at to pointer' front ++ replicate (n - m) 0) (sym long);
    }

next_block-behind : (size : ℕ) → size ≤ next_block size
next_block-behind size = omega arith

pointer_bytes : (machine : Machine) (q : ℕ) → machine.pointer ≡ 8
    → digits machine.order machine.pointer (pos q) ≡ digits machine.order 8 (pos q)
pointer_bytes machine q eight = ap (λ (size : ℕ). digits machine.order size (pos q)) eight

digits_zero : (order : Order) → digits order 8 (pos 0) ≡ replicate 8 0
digits_zero Little = refl
digits_zero Big = refl

pointer_zero : (machine : Machine) → machine.pointer ≡ 8 → digits machine.order machine.pointer (pos 0) ≡ replicate 8 0
pointer_zero machine eight = pointer_bytes machine 0 eight ∙ digits_zero machine.order

-- ---- texts

text_pieces : (programs : List Program) (image : Image) (machine : Machine) (step : Step) (block : TextBlock) (size : ℕ)
    → IsTextOf block step
    → step_laid programs image machine step size ≡ pack_text machine block.to (text_by image block.from) size
text_pieces programs image machine step block size is =
    let inside : ℕ → ℕ → ℕ → Pieces = λ s t later. moved image machine (inner_program programs step.inner) s t later in
    let here : 0 + block.from ≡ block.from = omega arith in
    ap (λ (op : Op). moved_op image machine step.task.size op inside 0 step.task.offset size) is.op_is
    ∙ ap (λ (t : ℕ). moved_op image machine step.task.size (Text (Some block.from)) inside 0 t size) is.to_is
    ∙ ap (λ (s : ℕ). pack_text machine block.to (text_by image s) size) here

pub text_laid : (programs : List Program) (image : Image) (machine : Machine) (step : Step) (block : TextBlock) (bytes front : List ℕ)
    → machine.pointer ≡ 8 → IsTextOf block step → text_by image block.from ≡ text bytes → block.to + 8 ≤ length front
    → IsLaidOn (step_laid programs image machine step (length front)) front (laid_block machine block.to front (bytes ++ 0 ∷ []))
text_laid programs image machine step block bytes front eight is there room =
    let size = length front in
    let q = next_block size in
    let all = bytes ++ 0 ∷ [] in
    let new = laid_block machine block.to front all in
    let pieces = text_pieces programs image machine step block size is
    ∙ ap (λ (datum : Datum). pack_text machine block.to datum size) there in
    let one_more = length-append bytes (0 ∷ []) in
    subst (λ (p : Pieces). IsLaidOn p front new) (sym pieces)
    (by_block block.to q (q + length bytes + 1) (digits machine.order machine.pointer (pos q)) (digits machine.order 8 (pos q)) front all
    (record { at = q; bytes = all } ∷ []) (pointer_bytes machine q eight) (length-digits machine.order 8 (pos q)) room
    (next_block-behind size) (omega (arith, one_more)) (λ out fits. refl))

pub null_laid : (programs : List Program) (image : Image) (machine : Machine) (step : Step) (block : TextBlock) (front : List ℕ)
    → machine.pointer ≡ 8 → IsTextOf block step → text_by image block.from ≡ null → block.to + 8 ≤ length front
    → IsLaidOn (step_laid programs image machine step (length front)) front (put_at block.to (replicate 8 0) front)
null_laid programs image machine step block front eight is there room =
    let size = length front in
    let pieces = text_pieces programs image machine step block size is
    ∙ ap (λ (datum : Datum). pack_text machine block.to datum size) there in
    subst (λ (p : Pieces). IsLaidOn p front (put_at block.to (replicate 8 0) front)) (sym pieces)
    (by_none block.to size (digits machine.order machine.pointer (pos 0)) (replicate 8 0) front (pointer_zero machine eight) refl room refl)

-- ---- arrays

below_half : (m : ℕ) → m < 2 ^ 31 → twos_complement 4 m ≡ pos m
below_half m small = rw (lt-ltb (2 * m) (2 ^ 32) (omega (arith, small))) refl

plain_count : (order : Order) (kind : Kind) (bytes : List ℕ) → is_plain_kind kind ≡ true → length bytes ≡ 4
    → magnitude order bytes < 2 ^ 31 → as_count (number order kind bytes) ≡ magnitude order bytes
plain_count order Int bytes plain long small =
    let m = magnitude order bytes in
    ap (λ (n : ℕ). as_count (twos_complement n m)) long ∙ ap as_count (below_half m small)
plain_count order Unsigned bytes plain long small = refl
plain_count order Char bytes plain long small = refl
plain_count order Boolean bytes plain long small = cc
plain_count order Enumeration bytes plain long small =
    let m = magnitude order bytes in
    ap (λ (n : ℕ). as_count (twos_complement n m)) long ∙ ap as_count (below_half m small)

-- the count of an array, as a number without a sign
pub array_count : (image : Image) (array : Array) (step : Step) (is : IsArrayOf array step) → array.count + 4 ≤ length image.bytes
    → magnitude image.order (bytes_at array.count 4 image.bytes) < 2 ^ 31
    → as_count (origin_number image 0 (Standing is.count)) ≡ magnitude image.order (bytes_at array.count 4 image.bytes)
array_count image array step is there small =
    let counted = is.counted in
    let here : 0 + is.count.offset ≡ array.count = omega (arith, counted) in
    let left = length-drop array.count image.bytes in
    let taken = length-take 4 (drop array.count image.bytes) in
    ap (λ (s : ℕ). as_count (number image.order is.count.kind (bytes_at s is.count.size image.bytes))) here
    ∙ ap (λ (size : ℕ). as_count (number image.order is.count.kind (bytes_at array.count size image.bytes))) is.four
    ∙ plain_count image.order is.count.kind (bytes_at array.count 4 image.bytes) is.plain (omega (arith, there, left, taken)) small

-- the elements of an array
abbrev elements_of : Array → (step : Step) → (array' : Array) → IsArrayOf array' step → Elements
elements_of array step array' is = record {
  part = part.Number is.kind is.from (width_of array.form);
  run = Some (record { count = Standing is.count; pointed = true; offset = array.from; stride = width_of array.form });
}

abbrev elements_pieces : Image → Machine → Array → Elements → (ℕ → ℕ → ℕ → Pieces) → ℕ → ℕ → Pieces
elements_pieces image machine array elements inside n size =
    moved_many machine array.to (size_of array.form) n
    (λ k. moved_element image machine (size_of array.form) elements inside 0 k) size

array_pieces : (programs : List Program) (image : Image) (machine : Machine) (step : Step) (array : Array) (n size : ℕ)
    → (is : IsArrayOf array step) → as_count (origin_number image 0 (Standing is.count)) ≡ n
    → step_laid programs image machine step size
    ≡ elements_pieces image machine array (elements_of array step array is)
    (λ s t later. moved image machine (inner_program programs step.inner) s t later) n size
array_pieces programs image machine step array n size is count =
    let inside : ℕ → ℕ → ℕ → Pieces = λ s t later. moved image machine (inner_program programs step.inner) s t later in
    let elements = elements_of array step array is in
    let op = Many (Standing is.count) elements in
    let few : min (as_count (origin_number image 0 (Standing is.count))) (as_count (origin_number image 0 (Standing is.count))) ≡ n =
    omega (arith, count) in
    ap (λ (o : Op). moved_op image machine step.task.size o inside 0 step.task.offset size) is.op_is
    ∙ ap (λ (t : ℕ). moved_op image machine step.task.size op inside 0 t size) is.to_is
    ∙ ap (λ (z : ℕ). moved_op image machine z op inside 0 array.to size) is.size_is
    ∙ ap (λ (m : ℕ). elements_pieces image machine array elements inside m size) few

some_width : (form : Form) → 0 < width_of form
some_width TwoToEight = omega arith
some_width FourToEight = omega arith
some_width TwoToFour = omega arith

-- signed numbers are read as `Int` is
as_signed : (kind : Kind) (order : Order) (size : ℕ) (from_order : Order) (width : ℕ) (bytes : List ℕ) → is_signed kind ≡ true
    → rewritten kind order size from_order width bytes ≡ rewritten Int order size from_order width bytes
as_signed Int order size from_order width bytes signed = refl
as_signed Unsigned order size from_order width bytes signed = cc
as_signed Char order size from_order width bytes signed = cc
as_signed Boolean order size from_order width bytes signed = cc
as_signed Enumeration order size from_order width bytes signed = refl

pub array_laid : (programs : List Program) (image : Image) (machine : Machine) (step : Step) (array : Array) (n : ℕ) (front : List ℕ)
    → machine.pointer ≡ 8 → (is : IsArrayOf array step) → as_count (origin_number image 0 (Standing is.count)) ≡ n → 0 < n
    → pointer_at image array.from + n * width_of array.form ≤ length image.bytes → array.to + 8 ≤ length front
    → IsLaidOn (step_laid programs image machine step (length front)) front
    (laid_block machine array.to front
    (rewritten Int machine.order (size_of array.form) image.order (width_of array.form)
    (take (n * width_of array.form) (drop (pointer_at image array.from) image.bytes))))
array_laid programs image machine step array zero front eight is count some there room = absurd (omega arith)
array_laid programs image machine step array (suc m) front eight is count some there room =
    let n = suc m in
    let inside : ℕ → ℕ → ℕ → Pieces = λ s t later. moved image machine (inner_program programs step.inner) s t later in
    let size = size_of array.form in
    let width = width_of array.form in
    let start = pointer_at image array.from in
    let q = next_block (length front) in
    let f : List ℕ → List ℕ = λ e. digits machine.order size (number image.order is.from e) in
    let long : (e : List ℕ) → length (f e) ≡ size = λ e. length-digits machine.order size (number image.order is.from e) in
    let block = rewritten Int machine.order size image.order width (take (n * width) (drop start image.bytes)) in
    let here : pointer_at image (0 + array.from) ≡ start = ap (pointer_at image) (omega arith) in
    let groups_are : flat_map f (groups width n (drop start image.bytes)) ≡ block =
    ap (flat_map f) (sym (first_groups width n start image.bytes (some_width array.form) there))
    ∙ as_signed is.from machine.order size image.order width (take (n * width) (drop start image.bytes)) is.signed in
    let sized : length block ≡ n * size =
    ap length (sym groups_are) ∙ length-groups f size width n (drop start image.bytes) long in
    let after = q + n * size in
    let pieces = moved_elements (λ k later. number_piece f q size width (pointer_at image (0 + array.from)) width image.bytes k later) n 0
    after in
    let puts : (out : List ℕ) → q + length block ≤ length out → put_pieces pieces.all out ≡ put_at q block out = λ out fits.
    (all_put f q size width (pointer_at image (0 + array.from)) width image.bytes n after out long (omega (arith, fits, sized)) refl
    ∙ ap (λ (s : ℕ). put_at q (flat_map f (groups width n (drop s image.bytes))) out) here ∙ ap (λ (l : List ℕ). put_at q l out) groups_are)
    in
    let numbers = numbers_size f q size width (pointer_at image (0 + array.from)) width image.bytes n 0 after in
    subst (λ (p : Pieces). IsLaidOn p front (laid_block machine array.to front block))
    (sym (array_pieces programs image machine step array n (length front) is count))
    (by_block array.to q pieces.size (digits machine.order machine.pointer (pos q)) (digits machine.order 8 (pos q)) front block pieces.all
    (pointer_bytes machine q eight) (length-digits machine.order 8 (pos q)) room (next_block-behind (length front))
    (sym numbers ∙ omega (arith, sized)) puts)

pub none_laid : (programs : List Program) (image : Image) (machine : Machine) (step : Step) (array : Array) (front : List ℕ)
    → machine.pointer ≡ 8 → (is : IsArrayOf array step) → as_count (origin_number image 0 (Standing is.count)) ≡ 0
    → array.to + 8 ≤ length front
    → IsLaidOn (step_laid programs image machine step (length front)) front (put_at array.to (replicate 8 0) front)
none_laid programs image machine step array front eight is count room =
    let size = length front in
    subst (λ (p : Pieces). IsLaidOn p front (put_at array.to (replicate 8 0) front))
    (sym (array_pieces programs image machine step array 0 size is count))
    (by_none array.to size (digits machine.order machine.pointer (pos 0)) (replicate 8 0) front (pointer_zero machine eight) refl room refl)

-- ---- zeros

-- a pointer 0 where zeros stand
pub zeros_put : (to : ℕ) (front : List ℕ) → take 8 (drop to front) ≡ replicate 8 0 → put_at to (replicate 8 0) front ≡ front
zeros_put to front zeros =
    let here = drop to front in
    ap (λ (l : List ℕ). take to front ++ l ++ drop (to + 8) front) (sym zeros)
    ∙ ap (λ (l : List ℕ). take to front ++ take 8 here ++ l) (sym (drop-drop 8 to front))
    ∙ append_assoc (take to front) (take 8 here) (drop 8 here) ∙ ap (λ (l : List ℕ). take to front ++ l) (take-append-drop 8 here)
    ∙ take-append-drop to front
