-- What the steps of a plan read stands inside the sender's bytes.
use Rattle.std.specs.Prelude.{ℕ, zero, suc, ◌+◌, ◌<◌, ◌≤◌, Bool, true, false, IsTrue, IsSome}
use Rattle.std.specs.Prelude.{length, drop, Option, Some, None, ⊤}
use Rattle.evp_base.specs.Numbers.{is_size_of}
use Rattle.evp_format.specs.Viewing.{Image, pointer_at, until_zero}
use Rattle.evp_plan.specs.declared.step.Op.{Op}
use Rattle.evp_plan.specs.declared.step.Op.TheVariants.{Number, Text, Nest, Each, Many}
use Rattle.evp_plan.specs.declared.step.Origin.{Origin}
use Rattle.evp_plan.specs.declared.step.Origin.TheVariants.{Standing, Stated}
use Rattle.evp_plan.specs.declared.step.Part.{Part}
use Rattle.evp_plan.specs.declared.step.Part.TheVariants as part
use Rattle.evp_plan.specs.declared.step.Run.{Run}
use Rattle.evp_plan.specs.Program.{Program, no_steps, performs}
use Rattle.evp_plan.specs.Standing.{run_count, element_place}

-- a number of the record at `at` is inside the bytes
abbrev pub IsOriginThere : Image → ℕ → Origin → Type 0
IsOriginThere image at (Standing source) = (at + source.offset + source.size ≤ length image.bytes)
    × IsTrue (is_size_of source.kind source.size)
IsOriginThere image at (Stated n) = ⊤

-- a pointer is 0, or leads to bytes with a zero among them
abbrev pub IsTextAt : Image → ℕ → Type 0
IsTextAt image zero = ⊤
IsTextAt image (suc p) = (suc p < length image.bytes)
    × IsSome (until_zero (drop (suc p) image.bytes))

-- a text's pointer stands at s
abbrev pub IsTextBy : Image → ℕ → Type 0
IsTextBy image s = (s + image.pointer ≤ length image.bytes) × IsTextAt image (pointer_at image s)

abbrev pub IsTextThere : Image → ℕ → Option ℕ → Type 0
IsTextThere image at None = ⊤
IsTextThere image at (Some offset) = IsTextBy image (at + offset)

-- an element at s; `Inside` is said of a record
abbrev pub IsPartThere : Image → Part → (ℕ → Type 0) → ℕ → Type 0
IsPartThere image (part.Number kind from width) Inside s = (s + width ≤ length image.bytes)
    × IsTrue (is_size_of from width)
IsPartThere image part.Text Inside s = IsTextBy image s
IsPartThere image part.Record Inside s = Inside s

-- the first element of an array, or the pointer to it, stands at s
abbrev pub IsStartThere : Image → Bool → ℕ → Type 0
IsStartThere image false s = s ≤ length image.bytes
IsStartThere image true s = s + image.pointer ≤ length image.bytes

pub record IsRunThere (image : Image) (at : ℕ) (part : Part) (Inside : ℕ → Type 0) (run : Run) :
    Type 0 where
  pub counted : IsOriginThere image at run.count
  pub begins : IsStartThere image run.pointed (at + run.offset)
  pub within : (k : ℕ) → k < run_count image at run
      → element_place image at run k ≤ length image.bytes
  pub each : (k : ℕ) → k < run_count image at run
      → IsPartThere image part Inside (element_place image at run k)

-- an element without a partner reads nothing; a record's steps begin at 0
abbrev pub IsDefaultThere : Part → (ℕ → Type 0) → Type 0
IsDefaultThere (part.Number kind from width) Inside = ⊤
IsDefaultThere part.Text Inside = ⊤
IsDefaultThere part.Record Inside = Inside 0

abbrev pub AreElementsThere : Image → ℕ → Part → (ℕ → Type 0) → Option Run → Type 0
AreElementsThere image at part Inside None = IsDefaultThere part Inside
AreElementsThere image at part Inside (Some run) = IsRunThere image at part Inside run

abbrev pub IsOpThere : Image → ℕ → Op → (ℕ → Type 0) → Type 0
IsOpThere image at (Number kind origin) Inside = IsOriginThere image at origin
IsOpThere image at (Text from) Inside = IsTextThere image at from
IsOpThere image at (Nest offset) Inside = (at + offset ≤ length image.bytes) × Inside (at + offset)
IsOpThere image at (Each count elements) Inside = AreElementsThere image at elements.part Inside
    elements.run
IsOpThere image at (Many origin elements) Inside = IsOriginThere image at origin
    × AreElementsThere image at elements.part Inside elements.run

-- all that a program reads for the record at `at`
abbrev pub IsReady : Image → Program → ℕ → Type 0
IsReady image no_steps at = ⊤
IsReady image (performs task inner rest) at = IsOpThere image at task.op
    (λ s. IsReady image inner s) × IsReady image rest at
