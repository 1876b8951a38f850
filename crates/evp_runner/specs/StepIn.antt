-- A step of a plan at work on a sender's record.
use Rattle.std.specs.Prelude.{◌≡◌, IsTrue, List, [], ℕ, ◌+◌, ◌*◌, ◌<◌, ◌≤◌, length, get_or, Option, Some, None}
use Rattle.std.specs.Prelude.{⊤}
use Rattle.evp_base.specs.Numbers.{is_size_of}
use Rattle.evp_base.specs.declared.kind.Kind.{Kind}
use Rattle.evp_format.specs.Bytes.{bytes_at}
use Rattle.evp_format.specs.Viewing.{Image}
use Rattle.evp_plan.specs.declared.step.Step.{Step}
use Rattle.evp_plan.specs.Cells.{Moving, IsMovesOf}
use Rattle.evp_plan.specs.Planned.{Planned}
use Rattle.evp_plan.specs.Program.{Program, inner_program, programs, IsOrdered}
use Rattle.evp_plan.specs.declared.step.Elements.{Elements}
use Rattle.evp_plan.specs.declared.step.Part.{Part}
use Rattle.evp_plan.specs.declared.step.Part.TheVariants as part
use Rattle.evp_plan.specs.declared.step.Run.{Run}
use Rattle.evp_format.specs.Datum.{Datum, null}
use Rattle.evp_plan.specs.Standing.{text_by, run_count, run_start, element_place}
use Rattle.evp_plan.specs.Ready.{IsOriginThere, IsTextBy, IsStartThere, IsOpThere, AreElementsThere}
use Rattle.evp_plan.specs.Ready.{IsRunThere, IsDefaultThere, IsPartThere, IsReady}
use Rattle.evp_plan.specs.Sound.{IsSoundPart, IsSoundOp, IsSound}
use Rattle.evp_runner.specs.declared.sender.Sender.{Sender}

abbrev pub image_in : Sender → Image
image_in sender = record {
  order = sender.order;
  pointer = sender.pointer;
  bytes = sender.bytes.now;
}

-- the program of the records inside a step's field
abbrev pub inside : Planned → Step → Program
inside plan step = inner_program (programs plan.table) step.inner

-- a program can work on the record at `at`, from a place of so many steps
pub record CanRun (plan : Planned) (image : Image) (program : Program) (at placed : ℕ) : Type 0
  where
    pub ready : IsReady image program at
    pub levels : ℕ
    pub room : placed + 2 * levels ≤ 32
    pub length : ℕ
    pub sound : IsSound plan.pointer program levels length

-- a step can, from the place of its record
pub record CanStep (plan : Planned) (image : Image) (step : Step) (at placed : ℕ) : Type 0 where
  pub ready : IsOpThere image at step.task.op (λ s. IsReady image (inside plan step) s)
  pub levels : ℕ
  pub room : placed + 2 + 2 * levels ≤ 32
  pub length : ℕ
  pub sound : IsSoundOp plan.pointer length step.task.offset step.task.size step.task.op
      (λ size. IsSound plan.pointer (inside plan step) levels size)

-- the elements of a step's array can, from the array's place
pub record CanList (plan : Planned) (image : Image) (step : Step) (elements : Elements)
    (at placed : ℕ) : Type 0 where
  pub ready : AreElementsThere image at elements.part (λ s. IsReady image (inside plan step) s)
      elements.run
  pub levels : ℕ
  pub room : placed + 1 + 2 * levels ≤ 32
  pub sound : IsSoundPart plan.pointer step.task.size elements.part
      (λ size. IsSound plan.pointer (inside plan step) levels size)

-- the elements of this array of the sender's can
pub record CanElements (plan : Planned) (image : Image) (step : Step) (part : Part) (run : Run)
    (at placed : ℕ) : Type 0 where
  pub ready : IsRunThere image at part (λ s. IsReady image (inside plan step) s) run
  pub levels : ℕ
  pub room : placed + 1 + 2 * levels ≤ 32
  pub sound : IsSoundPart plan.pointer step.task.size part
      (λ size. IsSound plan.pointer (inside plan step) levels size)

-- an element at s can
pub record CanPart (plan : Planned) (image : Image) (step : Step) (part : Part) (s placed : ℕ) :
    Type 0 where
  pub ready : IsPartThere image part (λ s'. IsReady image (inside plan step) s') s
  pub levels : ℕ
  pub room : placed + 1 + 2 * levels ≤ 32
  pub sound : IsSoundPart plan.pointer step.task.size part
      (λ size. IsSound plan.pointer (inside plan step) levels size)

-- the steps inside stand before list n
abbrev pub IsEarlier : ℕ → Step → Type 0
IsEarlier n step = (m : ℕ) → step.inner ≡ Some m → m < n

-- the steps inside are of the plan
abbrev pub IsInside : Planned → Step → Type 0
IsInside plan step = (m : ℕ) → step.inner ≡ Some m → m < length plan.table

-- the number of elements of the sender's array stands there
abbrev pub IsCountThere : Image → ℕ → Option Run → Type 0
IsCountThere image at None = ⊤
IsCountThere image at (Some run) = IsOriginThere image at run.count

-- ---- writing at t, into n bytes

-- a program can write the record at t
pub record CanMove (plan : Planned) (image : Image) (program : Program) (at t n : ℕ) : Type 0 where
  pub ready : IsReady image program at
  pub levels : ℕ
  pub length : ℕ
  pub sound : IsSound plan.pointer program levels length
  pub room : t + length ≤ n

-- a step can write its field of the record at t
pub record CanMoveStep (plan : Planned) (image : Image) (step : Step) (at t n : ℕ) : Type 0 where
  pub ready : IsOpThere image at step.task.op (λ s. IsReady image (inside plan step) s)
  pub levels : ℕ
  pub length : ℕ
  pub sound : IsSoundOp plan.pointer length step.task.offset step.task.size step.task.op
      (λ size. IsSound plan.pointer (inside plan step) levels size)
  pub room : t + length ≤ n

-- elements can be written
pub record CanMoveList (plan : Planned) (image : Image) (step : Step) (elements : Elements) (at : ℕ)
    : Type 0 where
  pub ready : AreElementsThere image at elements.part (λ s. IsReady image (inside plan step) s)
      elements.run
  pub levels : ℕ
  pub sound : IsSoundPart plan.pointer step.task.size elements.part
      (λ size. IsSound plan.pointer (inside plan step) levels size)

-- what an element is made from stands there
abbrev pub IsSourceThere : Planned → Image → Step → Part → Option ℕ → Type 0
IsSourceThere plan image step part None = IsDefaultThere part
    (λ s. IsReady image (inside plan step) s)
IsSourceThere plan image step part (Some s) = (s ≤ length image.bytes)
    × IsPartThere image part (λ s'. IsReady image (inside plan step) s') s

-- an element can be written
pub record CanMovePart (plan : Planned) (image : Image) (step : Step) (part : Part)
    (source : Option ℕ) : Type 0 where
  pub ready : IsSourceThere plan image step part source
  pub levels : ℕ
  pub sound : IsSoundPart plan.pointer step.task.size part
      (λ size. IsSound plan.pointer (inside plan step) levels size)

-- a text's pointer stands there
abbrev pub IsTextSource : Image → Option ℕ → Type 0
IsTextSource image None = ⊤
IsTextSource image (Some s) = IsTextBy image s

abbrev pub text_source : Image → Option ℕ → Datum
text_source image None = null
text_source image (Some s) = text_by image s

-- as many elements as the sender's array has, where there is one
abbrev pub AreFew : Image → ℕ → ℕ → Option Run → Type 0
AreFew image at n None = ⊤
AreFew image at n (Some run) = n ≤ run_count image at run

-- the sender's array begins there
abbrev pub BeginsThere : Image → ℕ → Option Run → Type 0
BeginsThere image at None = ⊤
BeginsThere image at (Some run) = IsStartThere image run.pointed (at + run.offset)

-- where its first element stands; 0 stands for none
abbrev pub first_place : Image → ℕ → Option Run → ℕ
first_place image at None = 0
first_place image at (Some run) = run_start image at run

-- numbers of the sender's array stand there
abbrev pub AreNumbersThere : Image → ℕ → Part → Option Run → Type 0
AreNumbersThere image at p None = ⊤
AreNumbersThere image at (part.Number kind from width) (Some run) =
    IsRunThere image at (part.Number kind from width) (λ s. ⊤) run
AreNumbersThere image at part.Text (Some run) = ⊤
AreNumbersThere image at part.Record (Some run) = ⊤

-- the elements are made from numbers of this kind and size, and these are the n that stand side by
-- side in the sender's array
pub record AreSideBySide (image : Image) (at n : ℕ) (elements : Elements) (from : Kind) (width : ℕ)
    (bytes : List ℕ) : Type 0 where
  pub kind : Kind
  pub run : Run
  pub part_is : elements.part ≡ part.Number kind from width
  pub run_is : elements.run ≡ Some run
  pub stride_is : run.stride ≡ width
  pub allowed : IsTrue (is_size_of from width)
  pub within : run_start image at run + n * width ≤ length image.bytes
  pub are : bytes ≡ bytes_at (run_start image at run) (n * width) image.bytes

-- the sender's array begins there, and element k is inside the bytes
abbrev pub IsElementThere : Image → ℕ → ℕ → Option Run → Type 0
IsElementThere image at k None = ⊤
IsElementThere image at k (Some run) = IsStartThere image run.pointed (at + run.offset)
    × (element_place image at run k ≤ length image.bytes)

-- the elements are records that gathers make
pub record AreRecordMoves (plan : Planned) (image : Image) (step : Step) (elements : Elements)
    (moves : Moving) : Type 0 where
  pub number : ℕ
  pub part_is : elements.part ≡ part.Record
  pub inner_is : step.inner ≡ Some number
  pub ordered : IsOrdered plan.table
  pub are : IsMovesOf image.order plan.order (get_or plan.table number []) moves
