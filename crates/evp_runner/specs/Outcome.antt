-- What a conversion answers to the caller.
use Rattle.std.specs.Prelude.{ℕ, zero, suc, ◌+◌, ◌*◌, nat_lt, if◌then◌else◌, Option, Some}
use Rattle.std.specs.Prelude.{None, not, List, [], ◌∷◌, ◌++◌, Result, Ok, Err}
use Rattle.evp_format.specs.declared.place.PlaceStep.{PlaceStep}
use Rattle.evp_format.specs.declared.place.PlaceStep.TheVariants.{At}
use Rattle.evp_format.specs.Bytes.{next_block}
use Rattle.evp_format.specs.Viewing.{Image}
use Rattle.evp_plan.specs.declared.step.Step.{Step}
use Rattle.evp_plan.specs.Measuring.{op_fits}
use Rattle.evp_format.specs.Converting.{Made, made, unfit, large, unless_unfit, take_block}
use Rattle.evp_runner.specs.declared.convert_fault.ConvertFault.{ConvertFault}
use Rattle.evp_runner.specs.declared.convert_fault.ConvertFault.TheVariants.{Unfit, Large}

-- the size, or the first fault with its place
abbrev pub outcome : {A : Type 0} → Made A → Result ℕ ConvertFault
outcome (made a size) = Ok size
outcome (unfit place) = Err (Unfit place)
outcome (large place) = Err (Large place)

-- nothing, or the first fault with its place
abbrev pub verdict : {A : Type 0} → Made A → Result (Unit {0}) ConvertFault
verdict (made a size) = Ok tt
verdict (unfit place) = Err (Unfit place)
verdict (large place) = Err (Large place)

-- nothing, at this size
abbrev pub sized_nothing : ℕ → Made (Unit {0})
sized_nothing size = made tt size

-- the size behind a block of k bytes
abbrev pub block_outcome : ℕ → List PlaceStep → ℕ → ℕ → Result ℕ ConvertFault
block_outcome limit place k size = outcome (take_block limit place k size sized_nothing)

-- whether a step's single number fits
abbrev pub step_verdict : Image → ℕ → Step → List PlaceStep → Result (Unit {0}) ConvertFault
step_verdict image at step place = verdict
    (unless_unfit (not (op_fits image at step.task.size step.task.op))
    (place ++ At step.task.field ∷ []) (λ _. sized_nothing 0))

-- the size behind the block of n elements of this size, where the limit allows it; none take no
-- block
abbrev pub room_for : ℕ → ℕ → ℕ → ℕ → Option ℕ
room_for limit zero element_size size = Some size
room_for limit (suc n) element_size size =
    if nat_lt limit (next_block size + suc n * element_size) then None
    else Some (next_block size + suc n * element_size)
