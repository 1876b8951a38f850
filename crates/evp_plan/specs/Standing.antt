-- What stands in a sender's record: its numbers, texts and arrays, by their offsets.
use Rattle.std.specs.Prelude.{ℕ, zero, suc, ◌+◌, ◌*◌, ℤ, Bool, true, false, List, drop, Option}
use Rattle.std.specs.Prelude.{Some, None}
use Rattle.evp_base.specs.Numbers.{number}
use Rattle.evp_format.specs.Bytes.{bytes_at}
use Rattle.evp_format.specs.Datum.{Datum, null, text}
use Rattle.evp_format.specs.Viewing.{Image, pointer_at, until_zero}
use Rattle.evp_format.specs.Zero.{as_count}
use Rattle.evp_plan.specs.declared.step.Origin.{Origin}
use Rattle.evp_plan.specs.declared.step.Origin.TheVariants.{Standing, Stated}
use Rattle.evp_plan.specs.declared.step.Run.{Run}

-- the number of a record that stands at `at`, or the stated one
abbrev pub origin_number : Image → ℕ → Origin → ℤ
origin_number image at (Standing source) = number image.order source.kind
    (bytes_at (at + source.offset) source.size image.bytes)
origin_number image at (Stated n) = n

-- the text before the first zero byte
abbrev pub ended : Option (List ℕ) → Datum
ended None = null
ended (Some bytes) = text bytes

-- the text that begins at q, or none where q is 0
abbrev pub text_from : Image → ℕ → Datum
text_from image zero = null
text_from image (suc p) = ended (until_zero (drop (suc p) image.bytes))

-- the text whose pointer stands at `s`
abbrev pub text_by : Image → ℕ → Datum
text_by image s = text_from image (pointer_at image s)

-- the text whose pointer stands at this offset of the record at `at`, where there is one
abbrev pub text_there : Image → ℕ → Option ℕ → Option Datum
text_there image at None = None
text_there image at (Some offset) = Some (text_by image (at + offset))

-- where the first element of an array stands
abbrev pub start_by : Bool → Image → ℕ → ℕ
start_by false image place = place
start_by true image place = pointer_at image place

abbrev pub run_start : Image → ℕ → Run → ℕ
run_start image at run = start_by run.pointed image (at + run.offset)

-- where element k of it stands
abbrev pub element_place : Image → ℕ → Run → ℕ → ℕ
element_place image at run k = run_start image at run + k * run.stride

-- how many elements it has
abbrev pub run_count : Image → ℕ → Run → ℕ
run_count image at run = as_count (origin_number image at run.count)
