-- A record laid block by block.
use Rattle.std.proofs.Common.{◌≡◌, ℕ, zero, suc, ◌+◌, ◌-◌, ◌≤◌, Bool, true, false, List, [], ◌∷◌, ◌++◌, length, take, drop}
use Rattle.std.proofs.Common.{Some, refl, sym, ap, ◌∙◌, subst, arith}
use Rattle.std.specs.Prelude.{slice_get, replicate, if◌then◌else◌}
use Rattle.std.proofs.lemmas.List.{length-take-le, take-append-drop, take_all}
use Rattle.evp_base.specs.declared.order.Order.{Order}
use Rattle.evp_base.proofs.Digits.{AreBytes}
use Rattle.evp_format.specs.Packing.{Machine, Pieces, put_pieces}
use Rattle.evp_format.specs.Viewing.{Image}
use Rattle.evp_plan.specs.declared.block.Block.{Block}
use Rattle.evp_plan.specs.declared.block.Block.TheVariants as block
use Rattle.evp_plan.specs.declared.step.Op.{Op}
use Rattle.evp_plan.specs.declared.step.Step.{Step}
use Rattle.evp_plan.specs.Cells.{painted_at}
use Rattle.evp_plan.specs.Laid.{Laying, block_steps, is_number, AreBlocksOf, IsBlockOf}
use Rattle.evp_plan.specs.Moving.{moved}
use Rattle.evp_plan.specs.Planned.{Planned, machine_in}
use Rattle.evp_plan.specs.Program.{Program, programs, program_of, last_steps}
use Rattle.evp_plan.specs.Ready.{IsOpThere, IsReady}
use Rattle.evp_plan.specs.Sound.{IsSoundOp, IsSound}
use Rattle.evp_plan.specs.LaidOn.{IsLaidOn}
use Rattle.evp_runner.specs.Laying.{block_moved, all_moved, AreOrders, CanLay, IsBlockLaid, CanLayAll}
use Rattle.evp_runner.specs.Pieces.{IsPut}
use Rattle.evp_runner.specs.StepIn.{inside}
use Rattle.evp_plan.proofs.LaidFronts.{moved_next, laid_none, laid_next}
use Rattle.evp_plan.proofs.LaidPieces.{laid_pieces, laid_record}
use Rattle.evp_runner.proofs.Moved.{grows_moved}

-- ---- the steps of blocks

ready_blocks : (ps : List Program) (image : Image) (steps : List Step) → IsReady image (program_of ps steps) 0
    → IsReady image (program_of ps (block_steps steps)) 0
ready_blocks ps image [] ready = tt
ready_blocks ps image (step ∷ steps) ready = by_test (is_number step.task.op) (ready_blocks ps image steps ready.1)
  where
    by_test : (test : Bool) → IsReady image (program_of ps (block_steps steps)) 0
        → IsReady image (program_of ps (if test then block_steps steps else step ∷ block_steps steps)) 0
    by_test true rest = rest
    by_test false rest = (ready.0, rest)

sound_blocks : (pointer : ℕ) (ps : List Program) (steps : List Step) (levels size : ℕ) → IsSound pointer (program_of ps steps) levels size
    → IsSound pointer (program_of ps (block_steps steps)) levels size
sound_blocks pointer ps [] levels size sound = tt
sound_blocks pointer ps (step ∷ steps) levels size sound = by_test (is_number step.task.op)
    (sound_blocks pointer ps steps levels size sound.2)
  where
    by_test : (test : Bool) → IsSound pointer (program_of ps (block_steps steps)) levels size
        → IsSound pointer (program_of ps (if test then block_steps steps else step ∷ block_steps steps)) levels size
    by_test true rest = rest
    by_test false rest = (sound.0, sound.1, rest)

each_ready : (plan : Planned) (image : Image) (steps : List Step) (k : ℕ) (step : Step)
    → IsReady image (program_of (programs plan.table) steps) 0 → slice_get steps k ≡ Some step
    → IsOpThere image 0 step.task.op (λ s. IsReady image (inside plan step) s)
each_ready plan image [] k step ready found = cc
each_ready plan image (first ∷ steps) zero step ready found =
    let same : first ≡ step = cc in
    subst (λ (s : Step). IsOpThere image 0 s.task.op (λ p. IsReady image (inside plan s) p)) same ready.0
each_ready plan image (first ∷ steps) (suc k) step ready found = each_ready plan image steps k step ready.1 found

pub record SoundAt (plan : Planned) (step : Step) (size : ℕ) : Type 0 where
  pub levels : ℕ
  pub sound : IsSoundOp plan.pointer size step.task.offset step.task.size step.task.op
      (λ n. IsSound plan.pointer (inside plan step) levels n)

each_sound : (plan : Planned) (steps : List Step) (levels size k : ℕ) (step : Step)
    → IsSound plan.pointer (program_of (programs plan.table) steps) levels size → slice_get steps k ≡ Some step → SoundAt plan step size
each_sound plan [] levels size k step sound found = cc
each_sound plan (first ∷ steps) levels size zero step sound found =
    let same : first ≡ step = cc in
    subst (λ (s : Step). SoundAt plan s size) same (record { levels = levels - 1; sound = sound.1 })
each_sound plan (first ∷ steps) levels size (suc k) step sound found = each_sound plan steps levels size k step sound.2 found

-- the pointer of a block is inside the fixed part
pointed : (plan : Planned) (block' : Block) (step : Step) (size : ℕ) → SoundAt plan step size → IsBlockOf block' step → plan.pointer ≡ 8
    → step.task.offset + 8 ≤ size
pointed plan (block.Text text) step size at is eight =
    let Sound : Op → Type 0 = λ o. IsSoundOp plan.pointer size step.task.offset step.task.size o
    (λ n. IsSound plan.pointer (inside plan step) at.levels n) in
    let there = subst Sound is.op_is at.sound in
    omega (arith, there, eight)
pointed plan (block.Array array) step size at is eight =
    let Sound : Op → Type 0 = λ o. IsSoundOp plan.pointer size step.task.offset step.task.size o
    (λ n. IsSound plan.pointer (inside plan step) at.levels n) in
    let there = (subst Sound is.op_is at.sound).0 in
    omega (arith, there, eight)

record BlockAt (steps : List Step) (k : ℕ) (block' : Block) : Type 0 where
  step : Step
  found : slice_get steps k ≡ Some step
  is : IsBlockOf block' step

block_at : (blocks : List Block) (steps : List Step) (k : ℕ) (block' : Block) → AreBlocksOf blocks steps → slice_get blocks k ≡ Some block'
    → BlockAt steps k block'
block_at [] steps k block' are found = cc
block_at (first ∷ blocks) [] k block' are found = absurd are
block_at (first ∷ blocks) (step ∷ steps) zero block' are found =
    let same : first ≡ block' = cc in
    record { step = step; found = refl; is = subst (λ (b : Block). IsBlockOf b step) same are.0 }
block_at (first ∷ blocks) (step ∷ steps) (suc k) block' are found =
    let rest = block_at blocks steps k block' are.1 found in
    record { step = rest.step; found = rest.found; is = rest.is }

blocks_long : (blocks : List Block) (steps : List Step) → AreBlocksOf blocks steps → length blocks ≡ length steps
blocks_long [] [] are = refl
blocks_long [] (step ∷ steps) are = absurd are
blocks_long (first ∷ blocks) [] are = absurd are
blocks_long (first ∷ blocks) (step ∷ steps) are = ap suc (blocks_long blocks steps are.1)

grows_append : (ps : List Program) (image : Image) (machine : Machine) (first rest : List Step) (size : ℕ)
    → (moved image machine (program_of ps first) 0 0 size).size ≤ (moved image machine (program_of ps (first ++ rest)) 0 0 size).size
grows_append ps image machine [] rest size = grows_moved image machine (program_of ps rest) 0 0 size
grows_append ps image machine (step ∷ first) rest size = grows_append ps image machine first rest _

-- one step more
take_next : (steps : List Step) (k : ℕ) (step : Step) → slice_get steps k ≡ Some step → take (suc k) steps ≡ take k steps ++ step ∷ []
take_next [] k step found = cc
take_next (first ∷ steps) zero step found = let same : first ≡ step = cc in ap (λ (s : Step). s ∷ []) same
take_next (first ∷ steps) (suc k) step found = ap (λ (l : List Step). first ∷ l) (take_next steps k step found)

take_more : (steps : List Step) (k : ℕ) (step : Step) → slice_get steps k ≡ Some step → take (k + 1) steps ≡ take k steps ++ step ∷ []
take_more steps k step found =
    let more : k + 1 ≡ suc k = omega arith in ap (λ (n : ℕ). take n steps) more ∙ take_next steps k step found

-- and the rest
split_at : (steps : List Step) (k : ℕ) (step : Step) → slice_get steps k ≡ Some step
    → take k steps ++ step ∷ [] ++ drop (k + 1) steps ≡ steps
split_at steps k step found =
    ap (λ (l : List Step). l ++ drop (k + 1) steps) (sym (take_more steps k step found)) ∙ take-append-drop (k + 1) steps

-- ---- the loop

-- the blocks of the first k steps stand behind the fixed part
pub record AreLaidSoFar (plan : Planned) (image : Image) (k fixed size : ℕ) (start out : List ℕ) : Type 0 where
  pub low : fixed ≤ size
  pub within : size ≤ length out
  pub laid : IsLaidOn (moved image (machine_in plan)
      (program_of (programs plan.table) (take k (block_steps (last_steps plan.table)))) 0 0 fixed) (take fixed start) (take size out)

-- the fixed part is inside
pub fixed_inside : (plan : Planned) (image : Image) (laid : Laying) (total : ℕ) → CanLayAll plan image laid total
    → length laid.numbers.cells ≤ total
fixed_inside plan image laid total can =
    let grows = grows_moved image (machine_in plan) (program_of (programs plan.table) (last_steps plan.table)) 0 0
    (length laid.numbers.cells) in
    let sized = can.sized in
    omega (arith, grows, sized)

pub none_so_far : (plan : Planned) (image : Image) (laid : Laying) (fixed total : ℕ) (out : List ℕ) → CanLayAll plan image laid total
    → fixed ≡ length laid.numbers.cells → length out ≡ total → AreLaidSoFar plan image 0 fixed fixed out out
none_so_far plan image laid fixed total out can is long =
    let inside_out = fixed_inside plan image laid total can in
    let within : fixed ≤ length out = omega (arith, inside_out, is, long) in
    let On : ℕ → Type 0 = λ n. IsLaidOn (moved image (machine_in plan) (program_of (programs plan.table) []) 0 0 n) (take fixed out)
    (take fixed out) in
    record {
      low = omega arith;
      within = within;
      laid = subst On (length-take-le fixed out within) (laid_none (programs plan.table) image (machine_in plan) (take fixed out));
    }

-- all blocks end with the record
blocks_size : (plan : Planned) (image : Image) (laid : Laying) (total : ℕ) (out : List ℕ) → CanLayAll plan image laid total
    → plan.pointer ≡ 8 → AreBytes image.bytes → length out ≡ total
    → (moved image (machine_in plan) (program_of (programs plan.table) (block_steps (last_steps plan.table))) 0 0
    (length laid.numbers.cells)).size ≡ total
blocks_size plan image laid total out can eight are long =
    let inside_out = fixed_inside plan image laid total can in
    sym (laid_pieces (programs plan.table) image (machine_in plan) (last_steps plan.table) laid total out eight can.is can.ready are inside_out
    (omega (arith, inside_out, long))).0
    ∙ can.sized

-- what is known of the step that makes block k
record LayAt (plan : Planned) (image : Image) (block' : Block) (k size total : ℕ) : Type 0 where
  step : Step
  found : slice_get (block_steps (last_steps plan.table)) k ≡ Some step
  is : IsBlockOf block' step
  ready : IsOpThere image 0 step.task.op (λ s. IsReady image (inside plan step) s)
  pointed : step.task.offset + 8 ≤ size
  fits : (block_moved plan image step size).size ≤ total

lay_at : (plan : Planned) (image : Image) (order to_order : Order) (laid : Laying) (block' : Block) (k fixed size total : ℕ)
    (start out : List ℕ) → AreOrders plan image order to_order → CanLayAll plan image laid total → AreBytes image.bytes
    → fixed ≡ length laid.numbers.cells → length out ≡ total → slice_get laid.blocks k ≡ Some block'
    → AreLaidSoFar plan image k fixed size start out → LayAt plan image block' k size (length out)
lay_at plan image order to_order laid block' k fixed size total start out orders can are is long found so_far =
    let ps = programs plan.table in
    let machine = machine_in plan in
    let steps = block_steps (last_steps plan.table) in
    let here = block_at laid.blocks steps k block' can.is.blocks found in
    let sound = sound_blocks plan.pointer ps (last_steps plan.table) can.levels (length laid.numbers.cells) can.sound in
    let at = each_sound plan steps can.levels (length laid.numbers.cells) k here.step sound here.found in
    let before = take k steps in
    let low = so_far.low in
    let place = pointed plan block' here.step (length laid.numbers.cells) at here.is orders.to_pointer in
    let sized : (moved image machine (program_of ps before) 0 0 fixed).size ≡ size =
    so_far.laid.sized ∙ length-take-le size out so_far.within in
    let next = ap (λ (p : Pieces). p.size) (moved_next ps image machine before here.step fixed) in
    let here_size = ap (λ (n : ℕ). (block_moved plan image here.step n).size) sized in
    let grows = grows_append ps image machine (before ++ here.step ∷ []) (drop (k + 1) steps) fixed in
    let whole = ap (λ (l : List Step). (moved image machine (program_of ps l) 0 0 fixed).size) (split_at steps k here.step here.found) in
    let at_fixed = ap (λ (n : ℕ). (moved image machine (program_of ps steps) 0 0 n).size) is in
    let all = blocks_size plan image laid total out can orders.to_pointer are long in
    record {
      step = here.step;
      found = here.found;
      is = here.is;
      ready = each_ready plan image steps k here.step (ready_blocks ps image (last_steps plan.table) can.ready) here.found;
      pointed = omega (arith, place, low, is);
      fits = omega (arith, next, here_size, grows, whole, at_fixed, all, long);
    }

pub can_lay : (plan : Planned) (image : Image) (order to_order : Order) (laid : Laying) (block' : Block) (k fixed size total : ℕ)
    (start out : List ℕ) → AreOrders plan image order to_order → CanLayAll plan image laid total → AreBytes image.bytes
    → fixed ≡ length laid.numbers.cells → length out ≡ total → slice_get laid.blocks k ≡ Some block'
    → AreLaidSoFar plan image k fixed size start out → CanLay plan image block' size (length out)
can_lay plan image order to_order laid block' k fixed size total start out orders can are is long found so_far =
    let at = lay_at plan image order to_order laid block' k fixed size total start out orders can are is long found so_far in
    record { step = at.step; is = at.is; ready = at.ready; pointed = at.pointed; fits = at.fits }

pub one_so_far : (plan : Planned) (image : Image) (order to_order : Order) (laid : Laying) (block' : Block) (k fixed size end total : ℕ)
    (start out new : List ℕ) → AreOrders plan image order to_order → CanLayAll plan image laid total → AreBytes image.bytes
    → fixed ≡ length laid.numbers.cells → length out ≡ total → slice_get laid.blocks k ≡ Some block'
    → AreLaidSoFar plan image k fixed size start out
    → ((step : CanLay plan image block' size (length out)) → IsBlockLaid (block_moved plan image step.step size) size end out new)
    → AreLaidSoFar plan image (k + 1) fixed end start new
one_so_far plan image order to_order laid block' k fixed size end total start out new orders can are is long found so_far made =
    let ps = programs plan.table in
    let machine = machine_in plan in
    let steps = block_steps (last_steps plan.table) in
    let at = lay_at plan image order to_order laid block' k fixed size total start out orders can are is long found so_far in
    let one = made (record { step = at.step; is = at.is; ready = at.ready; pointed = at.pointed; fits = at.fits }) in
    let old_long = length-take-le size out so_far.within in
    let new_long = length-take-le end new one.within in
    let grows = one.laid.grows in
    let low = so_far.low in
    let On : ℕ → Type 0 = λ n. IsLaidOn (block_moved plan image at.step n) (take size out) (take end new) in
    let next = laid_next ps image machine (take k steps) at.step fixed (take fixed start) (take size out) (take end new) so_far.laid
    (subst On (sym old_long) one.laid) in
    let On' : List Step → Type 0 = λ l. IsLaidOn (moved image machine (program_of ps l) 0 0 fixed) (take fixed start) (take end new) in
    record {
      low = omega (arith, low, old_long, new_long, grows);
      within = one.within;
      laid = subst On' (sym (take_more steps k at.step at.found)) next;
    }

pub all_laid : (plan : Planned) (image : Image) (order to_order : Order) (laid : Laying) (k fixed size total : ℕ) (first start out : List ℕ)
    → AreOrders plan image order to_order → CanLayAll plan image laid total → AreBytes image.bytes
    → fixed ≡ length laid.numbers.cells → length out ≡ total → length first ≡ total → length laid.blocks ≤ k
    → start ≡ painted_at image.bytes 0 0 laid.numbers.cells first
    → AreLaidSoFar plan image k fixed size start out
    → IsPut (all_moved plan image (length laid.numbers.cells)) (length out) (replicate (length out) 0) out
all_laid plan image order to_order laid k fixed size total first start out orders can are is long first_long past painted so_far =
    let ps = programs plan.table in
    let machine = machine_in plan in
    let steps = block_steps (last_steps plan.table) in
    let inside_out = fixed_inside plan image laid total can in
    let same = blocks_long laid.blocks steps can.is.blocks in
    let all : take k steps ≡ steps = take_all k steps (omega (arith, same, past)) in
    let On : List Step → Type 0 = λ l. IsLaidOn (moved image machine (program_of ps l) 0 0 fixed) (take fixed start) (take size out) in
    let On' : ℕ → Type 0 = λ n. IsLaidOn (moved image machine (program_of ps steps) 0 0 n) (take n start) (take size out) in
    let On'' : List ℕ → Type 0 = λ l. IsLaidOn (moved image machine (program_of ps steps) 0 0 (length laid.numbers.cells))
    (take (length laid.numbers.cells) l) (take size out) in
    let made = laid_record ps image machine (last_steps plan.table) laid first (take size out) orders.to_pointer can.is can.ready are
    (omega (arith, inside_out, first_long)) (subst On'' painted (subst On' is (subst On all so_far.laid))) in
    let sized = can.sized in
    let out_size = made.0 in
    let taken = length-take-le size out so_far.within in
    let whole : take size out ≡ out = take_all size out (omega (arith, sized, out_size, taken, long)) in
    let put = made.1 in
    record {
      sized = omega (arith, sized, long);
      put = subst (λ (l : List ℕ). l ≡ put_pieces (all_moved plan image (length laid.numbers.cells)).all (replicate (length l) 0)) whole put;
    }
