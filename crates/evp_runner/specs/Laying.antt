-- Blocks of a record that are laid one behind another.
use Rattle.std.specs.Prelude.{◌≡◌, ℕ, ◌+◌, ◌≤◌, length, List, take, Option, Some, None}
use Rattle.evp_base.specs.declared.order.Order.{Order}
use Rattle.evp_format.specs.Packing.{Pieces}
use Rattle.evp_format.specs.Viewing.{Image}
use Rattle.evp_plan.specs.declared.block.Block.{Block}
use Rattle.evp_plan.specs.declared.step.Step.{Step}
use Rattle.evp_plan.specs.Cells.{painted_at}
use Rattle.evp_plan.specs.Laid.{Laying, IsLaidOf, IsBlockOf}
use Rattle.evp_plan.specs.Moving.{moved, moved_op}
use Rattle.evp_plan.specs.Planned.{Planned, machine_in}
use Rattle.evp_plan.specs.Program.{programs, program_of, last_steps}
use Rattle.evp_plan.specs.Ready.{IsOpThere, IsReady}
use Rattle.evp_plan.specs.Sound.{IsSound}
use Rattle.evp_plan.specs.LaidOn.{IsLaidOn}
use Rattle.evp_runner.specs.StepIn.{inside}

-- what a step puts, its block from a size on
abbrev pub block_moved : Planned → Image → Step → ℕ → Pieces
block_moved plan image step size = moved_op image (machine_in plan) step.task.size step.task.op
    (λ s t later. moved image (machine_in plan) (inside plan step) s t later) 0 step.task.offset size

-- what all steps put
abbrev pub all_moved : Planned → Image → ℕ → Pieces
all_moved plan image size = moved image (machine_in plan)
    (program_of (programs plan.table) (last_steps plan.table)) 0 0 size

-- between machines with pointers of 8 bytes, of these orders
pub record AreOrders (plan : Planned) (image : Image) (order to_order : Order) : Type 0 where
  pub from : order ≡ image.order
  pub to : to_order ≡ plan.order
  pub from_pointer : image.pointer ≡ 8
  pub to_pointer : plan.pointer ≡ 8

-- a step makes this block; behind a front of this size, which has its pointer, it ends inside so
-- many bytes
pub record CanLay (plan : Planned) (image : Image) (block : Block) (size total : ℕ) : Type 0 where
  pub step : Step
  pub is : IsBlockOf block step
  pub ready : IsOpThere image 0 step.task.op (λ s. IsReady image (inside plan step) s)
  pub pointed : step.task.offset + 8 ≤ size
  pub fits : (block_moved plan image step size).size ≤ total

-- the front up to `end` is that up to `size` with what the step puts, and is inside
pub record IsBlockLaid (pieces : Pieces) (size end : ℕ) (old new : List ℕ) : Type 0 where
  pub within : end ≤ length new
  pub laid : IsLaidOn pieces (take size old) (take end new)

-- where one is answered, each step that makes this block was laid up to there
abbrev pub AreLaid : Planned → Image → Block → ℕ → List ℕ → List ℕ → Option ℕ → Type 0
AreLaid plan image block size old new None = Unit {0}
AreLaid plan image block size old new (Some end) =
    (can : CanLay plan image block size (length old))
    → IsBlockLaid (block_moved plan image can.step size) size end old new

-- a record of so many bytes can be laid
pub record CanLayAll (plan : Planned) (image : Image) (laid : Laying) (total : ℕ) : Type 0 where
  pub is : IsLaidOf image.order plan.order (programs plan.table) (last_steps plan.table) laid
  pub ready : IsReady image (program_of (programs plan.table) (last_steps plan.table)) 0
  pub levels : ℕ
  pub sound : IsSound plan.pointer (program_of (programs plan.table) (last_steps plan.table)) levels
      (length laid.numbers.cells)
  pub reach : laid.numbers.reach ≤ length image.bytes
  pub sized : (all_moved plan image (length laid.numbers.cells)).size ≡ total

-- the fixed part was made over some bytes
pub record AreNumbersMade (image : Image) (laid : Laying) (out : List ℕ) : Type 0 where
  pub over : List ℕ
  pub long : length over ≡ length out
  pub made : out ≡ painted_at image.bytes 0 0 laid.numbers.cells over
