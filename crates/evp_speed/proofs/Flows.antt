-- The flow of steps: each position below their number is the fact that stands there.
use Rattle.std.proofs.Common.{◌≡◌, ℕ, ◌<◌, Some, ap, ◌∙◌, arith}
use Rattle.std.proofs.lemmas.List.FromFn.{length-range_with_len, get_or-range_with_len}
use Rattle.std.proofs.lemmas.Option.{slice_get-get_or}
use Rattle.std.specs.List.{range_with_len, slice_get}

pub step_at : (number position : ℕ) → position < number → slice_get (range_with_len 0 number) position ≡ Some position
step_at number position below =
    slice_get-get_or (range_with_len 0 number) position 0 (omega (arith, length-range_with_len 0 number))
    ∙ ap (λ (n : ℕ). Some n) (get_or-range_with_len 0 number position 0 below ∙ omega arith)
