-- Which steps make which blocks.
use Rattle.std.proofs.Common.{◌≡◌, ℕ, zero, suc, ◌+◌, ◌-◌, ◌<◌, ◌≤◌, Bool, true, false, List, [], ◌∷◌, ◌++◌, length, map, take, get_or}
use Rattle.std.proofs.Common.{Option, Some, None, refl, sym, ap, ◌∙◌, subst}
use Rattle.std.specs.Prelude.{if◌then◌else◌, IfSome}
use Rattle.std.proofs.lemmas.List.{take_more, take_all, length-map}
use Rattle.evp_base.specs.declared.kind.Kind.{Kind}
use Rattle.evp_base.specs.declared.order.Order.{Order}
use Rattle.evp_plan.specs.declared.block.Block.{Block}
use Rattle.evp_plan.specs.declared.block.Block.TheVariants as block
use Rattle.evp_plan.specs.declared.block.Form.{Form}
use Rattle.evp_plan.specs.declared.step.Elements.{Elements}
use Rattle.evp_plan.specs.declared.step.Op.{Op}
use Rattle.evp_plan.specs.declared.step.Op.TheVariants.{Many}
use Rattle.evp_plan.specs.declared.step.Origin.{Origin}
use Rattle.evp_plan.specs.declared.step.Origin.TheVariants.{Standing}
use Rattle.evp_plan.specs.declared.step.Part.{Part}
use Rattle.evp_plan.specs.declared.step.Part.TheVariants as part
use Rattle.evp_plan.specs.declared.step.Run.{Run}
use Rattle.evp_plan.specs.declared.step.Source.{Source}
use Rattle.evp_plan.specs.declared.step.Step.{Step}
use Rattle.evp_plan.specs.Cells.{Moving, is_plain_kind}
use Rattle.evp_plan.specs.Laid.{is_number, number_steps, block_steps, width_of, size_of, is_signed, IsArrayOf, IsBlockOf, AreBlocksOf}
use Rattle.evp_plan.specs.Laid.{AreApart, AreCellsOf, IsLaidOf, IsLaidBetween, Laying}
use Rattle.evp_plan.specs.Program.{Program, inner_program, programs, last_steps}
use Rattle.evp_plan.specs.Quiet.{covers, is_quiet, is_quiet_op, tests_of, tests_in}

-- ---- one step

pub source_is : (one other : Source) → one.offset ≡ other.offset → one.size ≡ other.size → one.kind ≡ other.kind → one ≡ other
source_is one other offset size kind =
    let source : ℕ → ℕ → Kind → Source = λ o s k. record { offset = o; size = s; kind = k } in
    ap (λ (o : ℕ). source o one.size one.kind) offset ∙ ap (λ (s : ℕ). source other.offset s one.kind) size
    ∙ ap (λ (k : Kind). source other.offset other.size k) kind

pub run_is : (run : Run) (own count : Source) (width : ℕ) → run.count ≡ Standing own → own ≡ count → run.pointed ≡ true
    → run.stride ≡ width → run ≡ record { count = Standing count; pointed = true; offset = run.offset; stride = width }
run_is run own count width is same pointed stride =
    let made : Origin → Bool → ℕ → Run = λ o p s. record { count = o; pointed = p; offset = run.offset; stride = s } in
    ap (λ (o : Origin). made o run.pointed run.stride) (is ∙ ap (λ (s : Source). Standing s) same)
    ∙ ap (λ (p : Bool). made (Standing count) p run.stride) pointed ∙ ap (λ (s : ℕ). made (Standing count) true s) stride

pub array_is : (step : Step) (origin : Origin) (count : Source) (elements : Elements) (kind from : Kind) (width : ℕ) (run : Run) (form : Form)
    → step.task.op ≡ Many origin elements → origin ≡ Standing count → elements.part ≡ part.Number kind from width
    → elements.run ≡ Some run → run ≡ record { count = Standing count; pointed = true; offset = run.offset; stride = width }
    → (count.size ≡ 4) × (is_plain_kind count.kind ≡ true)
    → (width ≡ width_of form) × ((step.task.size ≡ size_of form) × (is_signed from ≡ true))
    → covers kind step.task.size from width ≡ true
    → IsArrayOf (record { count = count.offset; from = run.offset; to = step.task.offset; form = form }) step
array_is step origin count elements kind from width run form op origin_is part_is some whole counts formed fits =
    let made : ℕ → Run = λ w. record { count = Standing count; pointed = true; offset = run.offset; stride = w } in
    record {
      kind = kind;
      from = from;
      count = count;
      op_is =
          op ∙ ap (λ (o : Origin). Many o elements) origin_is
          ∙ ap (λ (p : Part). Many (Standing count) (record { part = p; run = elements.run })) part_is
          ∙ ap (λ r. Many (Standing count) (record { part = part.Number kind from width; run = r })) (some ∙ ap (λ (r : Run). Some r) whole)
          ∙ ap (λ (w : ℕ). Many (Standing count) (record { part = part.Number kind from w; run = Some (made w) })) formed.0;
      to_is = refl;
      size_is = formed.1.0;
      counted = refl;
      four = counts.0;
      plain = counts.1;
      signed = formed.1.1;
      fits = subst (λ (w : ℕ). covers kind (size_of form) from w ≡ true) formed.0
          (subst (λ (s : ℕ). covers kind s from width ≡ true) formed.1.0 fits);
    }

-- ---- the steps that make blocks

blocks_more : (blocks : List Block) (block : Block) (steps : List Step) (step : Step) → AreBlocksOf blocks steps → IsBlockOf block step
    → AreBlocksOf (blocks ++ block ∷ []) (steps ++ step ∷ [])
blocks_more [] block [] step are is = (is, tt)
blocks_more [] block (first ∷ steps) step are is = absurd are
blocks_more (first ∷ blocks) block [] step are is = absurd are
blocks_more (first ∷ blocks) block (second ∷ steps) step are is = (are.0, blocks_more blocks block steps step are.1 is)

pub next_block : (steps : List Step) (k : ℕ) (step : Step) (blocks pushed : List Block) (block : Block) → k < length steps
    → AreBlocksOf blocks (take k steps) → IsBlockOf block (get_or steps k step) → pushed ≡ blocks ++ block ∷ []
    → AreBlocksOf pushed (take (k + 1) steps)
next_block steps k step blocks pushed block below are here is =
    subst (λ (l : List Step). AreBlocksOf pushed l) (sym (take_more steps k step below))
    (subst (λ (l : List Block). AreBlocksOf l (take k steps ++ get_or steps k step ∷ [])) (sym is)
    (blocks_more blocks block (take k steps) (get_or steps k step) are here))

pub all_blocks : (steps : List Step) (k : ℕ) (blocks : List Block) → length steps ≤ k → AreBlocksOf blocks (take k steps)
    → AreBlocksOf blocks steps
all_blocks steps k blocks past are = subst (λ (l : List Step). AreBlocksOf blocks l) (take_all k steps past) are

-- such a step can refuse something
block_tested : (block : Block) (step : Step) (inside : Bool) → IsBlockOf block step
    → is_quiet_op step.task.size step.task.op inside ≡ false
block_tested (block.Text text) step inside is = ap (λ (op : Op). is_quiet_op step.task.size op inside) is.op_is
block_tested (block.Array array) step inside is = ap (λ (op : Op). is_quiet_op step.task.size op inside) is.op_is

one_step : (step : Step) (number quiet : Bool) (tests others : List Step) → is_number step.task.op ≡ number
    → ((block : Block) → IsBlockOf block step → quiet ≡ false)
    → ((blocks : List Block) → AreBlocksOf blocks others → number_steps tests ≡ [] → tests ≡ others)
    → (blocks : List Block) → AreBlocksOf blocks (if number then others else step ∷ others)
    → number_steps (if quiet then tests else step ∷ tests) ≡ []
    → (if quiet then tests else step ∷ tests) ≡ (if number then others else step ∷ others)
one_step step true true tests others is tested rest blocks are none = rest blocks are none
one_step step true false tests others is tested rest blocks are none =
    (let bad : step ∷ number_steps tests ≡ [] =
    subst (λ (b : Bool). (if b then step ∷ number_steps tests else number_steps tests) ≡ []) is none in cc)
one_step step false quiet tests others is tested rest [] are none = absurd are
one_step step false true tests others is tested rest (first ∷ blocks) are none =
    (let bad : true ≡ false = tested first are.0 in cc)
one_step step false false tests others is tested rest (first ∷ blocks) are none =
    ap (λ (l : List Step). step ∷ l) (rest blocks are.1
    (subst (λ (b : Bool). (if b then step ∷ number_steps tests else number_steps tests) ≡ []) is none))

-- where no number is tested, the tests are the steps that make blocks
same_tests : (programs : List Program) (steps : List Step) (blocks : List Block) → AreBlocksOf blocks (block_steps steps)
    → number_steps (tests_of programs steps) ≡ [] → tests_of programs steps ≡ block_steps steps
same_tests programs [] blocks are none = refl
same_tests programs (step ∷ steps) blocks are none =
    let inside = is_quiet (inner_program programs step.inner) in
    one_step step (is_number step.task.op) (is_quiet_op step.task.size step.task.op inside) (tests_of programs steps) (block_steps steps)
    refl (λ block is. block_tested block step inside is) (same_tests programs steps) blocks are none

-- ---- all of them

pub laid_is : (from_order order : Order) (steps tests pointers numbers : List Step) (moves : Moving) (blocks : List Block)
    → numbers ≡ number_steps steps → pointers ≡ block_steps steps → AreBlocksOf blocks pointers → AreApart pointers numbers
    → number_steps tests ≡ [] → AreCellsOf from_order order numbers moves.cells → (programs : List Program)
    → tests ≡ tests_of programs steps → IsLaidOf from_order order programs steps (record { numbers = moves; blocks = blocks })
laid_is from_order order steps tests pointers numbers moves blocks numbers_are pointers_are are apart none cells programs tests_are =
    let there : AreBlocksOf blocks (block_steps steps) = subst (λ (l : List Step). AreBlocksOf blocks l) pointers_are are in
    record {
      numbers = subst (λ (l : List Step). AreCellsOf from_order order l moves.cells) numbers_are cells;
      blocks = there;
      apart = subst (λ (l : List Step). AreApart (block_steps steps) l) numbers_are
          (subst (λ (l : List Step). AreApart l numbers) pointers_are apart);
      tests = same_tests programs steps blocks there (subst (λ (l : List Step). number_steps l ≡ []) tests_are none);
    }

-- ---- a plan's

pub plan_laid : (made : Option Laying) (from from' order order' : Order) (steps steps' tests : List Step) (all : List Program)
    (wide room long fixed from_pointer from_pointer' pointer pointer' : ℕ)
    → IfSome made (λ laid. ((earlier : List Program) → tests ≡ tests_of earlier steps → IsLaidOf from order earlier steps laid)
    × IsLaidBetween wide long from_pointer pointer laid)
    → from' ≡ from → order' ≡ order → steps ≡ steps' → tests ≡ tests_of all steps' → room ≡ wide → fixed ≡ long
    → from_pointer' ≡ from_pointer → pointer' ≡ pointer
    → IfSome made (λ laid. IsLaidOf from' order' all steps' laid × IsLaidBetween room fixed from_pointer' pointer' laid)
plan_laid None from from' order order' steps steps' tests all wide room long fixed from_pointer from_pointer' pointer pointer' is from_is
    order_is steps_are tests_are room_is fixed_is from_pointer_is pointer_is = tt
plan_laid (Some laid) from from' order order' steps steps' tests all wide room long fixed from_pointer from_pointer' pointer pointer' is
    from_is order_is steps_are tests_are room_is fixed_is from_pointer_is pointer_is = (
      subst (λ (o : Order). IsLaidOf o order' all steps' laid) (sym from_is)
          (subst (λ (o : Order). IsLaidOf from o all steps' laid) (sym order_is)
          (subst (λ (l : List Step). IsLaidOf from order all l laid) steps_are (is.0 all (tests_are ∙ ap (tests_of all) (sym steps_are))))),
      record {
        reach = subst (λ (n : ℕ). laid.numbers.reach ≤ n) (sym room_is) is.1.reach;
        fixed_is = is.1.fixed_is ∙ sym fixed_is;
        from_eight = from_pointer_is ∙ is.1.from_eight;
        eight = pointer_is ∙ is.1.eight;
        few = is.1.few;
      },
    )

mapped_at : (f : List Step → List Step) → f [] ≡ [] → (table : List (List Step)) (k : ℕ) → get_or (map f table) k [] ≡ f (get_or table k [])
mapped_at f none [] zero = sym none
mapped_at f none [] (suc k) = sym none
mapped_at f none (steps ∷ table) zero = refl
mapped_at f none (steps ∷ table) (suc k) = mapped_at f none table k

-- the tests of the last list are the last tests
pub last_tests : (table : List (List Step)) → last_steps (tests_in table) ≡ tests_of (programs table) (last_steps table)
last_tests table =
    let f = tests_of (programs table) in
    ap (λ (n : ℕ). get_or (map f table) (n - 1) []) (length-map table f) ∙ mapped_at f refl table (length table - 1)
