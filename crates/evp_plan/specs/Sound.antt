-- The steps of a plan stay inside the receiver's record, store numbers of allowed sizes, and nest
-- no deeper than formats do.
use Rattle.std.specs.Prelude.{◌≡◌, ℕ, ◌+◌, ◌-◌, ◌*◌, ◌≤◌, IsTrue, ⊤}
use Rattle.evp_base.specs.Numbers.{is_size_of}
use Rattle.evp_plan.specs.declared.step.Op.{Op}
use Rattle.evp_plan.specs.declared.step.Op.TheVariants.{Number, Text, Nest, Each, Many}
use Rattle.evp_plan.specs.declared.step.Part.{Part}
use Rattle.evp_plan.specs.declared.step.Part.TheVariants as part
use Rattle.evp_plan.specs.Program.{Program, no_steps, performs}

-- an element of this size; `Inside` is said of the length of a record
abbrev pub IsSoundPart : ℕ → ℕ → Part → (ℕ → Type 0) → Type 0
IsSoundPart pointer size (part.Number kind from width) Inside = IsTrue (is_size_of kind size)
IsSoundPart pointer size part.Text Inside = size ≡ pointer
IsSoundPart pointer size part.Record Inside = (1 ≤ size) × Inside size

-- a field at an offset, of elements of this size, in a record of this length
abbrev pub IsSoundOp : ℕ → ℕ → ℕ → ℕ → Op → (ℕ → Type 0) → Type 0
IsSoundOp pointer length offset size (Number kind origin) Inside = (offset + size ≤ length)
    × IsTrue (is_size_of kind size)
IsSoundOp pointer length offset size (Text from) Inside = offset + pointer ≤ length
IsSoundOp pointer length offset size (Nest at) Inside = (offset + size ≤ length) × Inside size
IsSoundOp pointer length offset size (Each count elements) Inside = (offset + count * size ≤ length)
    × IsSoundPart pointer size elements.part Inside
IsSoundOp pointer length offset size (Many origin elements) Inside = (offset + pointer ≤ length)
    × IsSoundPart pointer size elements.part Inside

-- a program for a record of this length, with at most so many levels of records
abbrev pub IsSound : ℕ → Program → ℕ → ℕ → Type 0
IsSound pointer no_steps depth length = ⊤
IsSound pointer (performs task inner rest) depth length =
    (1 ≤ depth) × IsSoundOp pointer length task.offset task.size task.op
    (λ size. IsSound pointer inner (depth - 1) size) × IsSound pointer rest depth length
