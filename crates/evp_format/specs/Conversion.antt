-- What a conversion between two formats answers: their clash, else what conversion by name makes,
-- with its paths.
-- Between formats that clash nothing is converted: what `convert` computes there, where a partner
-- of another class counts as none and an element of another class as 0, null or a record without
-- fields, is in no answer.
use Rattle.std.specs.Prelude.{ℕ, List, Option, Some, None}
use Rattle.evp_base.specs.declared.step.Step.{Step}
use Rattle.evp_format.specs.Clashing.{clash}
use Rattle.evp_format.specs.Converting.{Made, made, unfit, large, convert}
use Rattle.evp_format.specs.Datum.{Datum}
use Rattle.evp_format.specs.Layout.{Layout}
use Rattle.evp_format.specs.Path.{path_of}

pub data Answer : Type 0 where
  clashes : List Step → Answer
  -- the value, and its packed size
  converted : Datum → ℕ → Answer
  unfit_at : List Step → Answer
  large_at : List Step → Answer

-- what was made, or the path of the first fault in the receiver's format
abbrev pub answer_of : Layout → Made Datum → Answer
answer_of to (made value size) = converted value size
answer_of to (unfit place) = unfit_at (path_of to place)
answer_of to (large place) = large_at (path_of to place)

abbrev pub unless_clash : Option (List Step) → (Unit {0} → Answer) → Answer
unless_clash (Some path) next = clashes path
unless_clash None next = next tt

-- the value of a record in `from`, converted into `to`, its packed size at most the limit
abbrev pub conversion : Layout → Layout → Datum → ℕ → Answer
conversion from to value limit =
    unless_clash (clash from to) (λ _. answer_of to (convert to value limit))
