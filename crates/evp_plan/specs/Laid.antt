-- Records of single numbers, texts and counted arrays of numbers, made without a look at their steps:
-- the numbers and zeros by moves, then block by block.
use Rattle.std.specs.Prelude.{◌≡◌, ℕ, ◌+◌, ◌^◌, ◌≤◌, ◌⊎◌, Bool, true, false, List, [], ◌∷◌, length, replicate, Some}
use Rattle.std.specs.Prelude.{if◌then◌else◌, ⊤}
use Rattle.std.specs.List.{All, list_all}
use Rattle.evp_base.specs.declared.kind.Kind.{Kind}
use Rattle.evp_base.specs.declared.kind.Kind.TheVariants.{Int, Unsigned, Char, Boolean, Enumeration}
use Rattle.evp_base.specs.declared.order.Order.{Order}
use Rattle.evp_plan.specs.declared.block.Array.{Array}
use Rattle.evp_plan.specs.declared.block.Block.{Block}
use Rattle.evp_plan.specs.declared.block.Block.TheVariants as block
use Rattle.evp_plan.specs.declared.block.Form.{Form}
use Rattle.evp_plan.specs.declared.block.Form.TheVariants.{TwoToEight, FourToEight, TwoToFour}
use Rattle.evp_plan.specs.declared.block.Text.{Text as TextBlock}
use Rattle.evp_plan.specs.declared.cell.Cell.{Cell}
use Rattle.evp_plan.specs.declared.cell.Cell.TheVariants.{Constant}
use Rattle.evp_plan.specs.declared.step.Op.{Op}
use Rattle.evp_plan.specs.declared.step.Op.TheVariants.{Number, Text, Nest, Each, Many}
use Rattle.evp_plan.specs.declared.step.Origin.TheVariants.{Standing}
use Rattle.evp_plan.specs.declared.step.Part.TheVariants as part
use Rattle.evp_plan.specs.declared.step.Source.{Source}
use Rattle.evp_plan.specs.declared.step.Step.{Step}
use Rattle.evp_plan.specs.Cells.{Moving, end_of, steps_over, is_plain_op, is_plain_kind}
use Rattle.evp_plan.specs.Program.{Program}
use Rattle.evp_plan.specs.Quiet.{covers, tests_of}

-- ---- steps

abbrev pub is_number : Op → Bool
is_number (Number kind origin) = true
is_number (Text from) = false
is_number (Nest offset) = false
is_number (Each count elements) = false
is_number (Many origin elements) = false

-- those that make single numbers
abbrev pub number_steps : List Step → List Step
number_steps [] = []
number_steps (step ∷ steps) = if is_number step.task.op then step ∷ number_steps steps else number_steps steps

-- the others
abbrev pub block_steps : List Step → List Step
block_steps [] = []
block_steps (step ∷ steps) = if is_number step.task.op then block_steps steps else step ∷ block_steps steps

-- ---- blocks

-- bytes of a sender's number
abbrev pub width_of : Form → ℕ
width_of TwoToEight = 2
width_of FourToEight = 4
width_of TwoToFour = 2

-- bytes of a receiver's number
abbrev pub size_of : Form → ℕ
size_of TwoToEight = 8
size_of FourToEight = 8
size_of TwoToFour = 4

-- numbers with a sign
abbrev pub is_signed : Kind → Bool
is_signed Int = true
is_signed Unsigned = false
is_signed Char = false
is_signed Boolean = false
is_signed Enumeration = true

-- the step makes this text
pub record IsTextOf (text : TextBlock) (step : Step) : Type 0 where
  pub op_is : step.task.op ≡ Text (Some text.from)
  pub to_is : step.task.offset ≡ text.to

-- the step makes this array
pub record IsArrayOf (array : Array) (step : Step) : Type 0 where
  pub kind : Kind
  pub from : Kind
  pub count : Source
  pub op_is : step.task.op ≡ Many (Standing count) (record {
    part = part.Number kind from (width_of array.form);
    run = Some (record {
      count = Standing count;
      pointed = true;
      offset = array.from;
      stride = width_of array.form;
    });
  })
  pub to_is : step.task.offset ≡ array.to
  pub size_is : step.task.size ≡ size_of array.form
  pub counted : count.offset ≡ array.count
  pub four : count.size ≡ 4
  pub plain : is_plain_kind count.kind ≡ true
  pub signed : is_signed from ≡ true
  pub fits : covers kind (size_of array.form) from (width_of array.form) ≡ true

abbrev pub IsBlockOf : Block → Step → Type 0
IsBlockOf (block.Text text) step = IsTextOf text step
IsBlockOf (block.Array array) step = IsArrayOf array step

-- each step makes the block in its place
abbrev pub AreBlocksOf : List Block → List Step → Type 0
AreBlocksOf [] [] = ⊤
AreBlocksOf [] (step ∷ steps) = ⊥
AreBlocksOf (block ∷ blocks) [] = ⊥
AreBlocksOf (block ∷ blocks) (step ∷ steps) = IsBlockOf block step × AreBlocksOf blocks steps

-- the bytes of a number don't meet a pointer of 8 bytes
abbrev pub IsBeside : Step → Step → Type 0
IsBeside pointer number = (number.task.offset + number.task.size ≤ pointer.task.offset)
    ⊎ (pointer.task.offset + 8 ≤ number.task.offset)

-- no number meets a block's pointer
abbrev pub AreApart : List Step → List Step → Type 0
AreApart pointers numbers = All (λ pointer. All (IsBeside pointer) numbers) pointers

-- ---- records

-- moves for the fixed part, and the blocks in the order of their fields
pub record Laying : Type 0 where
  pub numbers : Moving
  pub blocks : List Block

-- the cells make what these steps make, and zeros between, from a sender of this order
pub record AreCellsOf (from_order order : Order) (steps : List Step) (cells : List Cell) : Type 0 where
  pub plain : list_all (λ step. is_plain_op step.task.op) steps ≡ true
  pub fits : end_of steps ≤ length cells
  pub over : cells ≡ steps_over order from_order steps (replicate (length cells) (Constant 0))

-- these make what the steps make; no number may be one that doesn't fit
pub record IsLaidOf (from_order order : Order) (programs : List Program) (steps : List Step)
    (laid : Laying) : Type 0 where
  pub numbers : AreCellsOf from_order order (number_steps steps) laid.numbers.cells
  pub blocks : AreBlocksOf laid.blocks (block_steps steps)
  pub apart : AreApart (block_steps steps) (number_steps steps)
  pub tests : tests_of programs steps ≡ block_steps steps

-- these stand between records whose fixed parts have so many bytes, on machines with pointers of 8
-- bytes; no more blocks than can be summed up
pub record IsLaidBetween (room fixed from_pointer pointer : ℕ) (laid : Laying) : Type 0 where
  pub reach : laid.numbers.reach ≤ room
  pub fixed_is : length laid.numbers.cells ≡ fixed
  pub from_eight : from_pointer ≡ 8
  pub eight : pointer ≡ 8
  pub few : length laid.blocks ≤ 2 ^ 20
