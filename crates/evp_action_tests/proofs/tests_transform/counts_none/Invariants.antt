use Rattle.std.proofs.Common.{◌≡◌, ◌≢◌, ℕ, Some, slice_get, ◌<◌}
use Rattle.evp_format.specs.declared.field.Field.{Field}
use Rattle.evp_format.specs.declared.field.Shape.TheVariants.{Counted}
use Rattle.evp_action_tests.proofs.tests_transform.counts_none.Given as goal

-- no field so far has this number's as its count
abbrev pub invariant-loop-field : goal.invariant-loop-field
invariant-loop-field l =
    (k : ℕ) (other : Field) → k < l.field-index → slice_get l.fields k ≡ Some other → other.shape ≢ Counted l.number
