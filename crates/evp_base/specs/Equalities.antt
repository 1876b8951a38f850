-- That `==` tells which steps and which paths are the same, and so is an equivalence.
use Rattle.std.specs.Prelude.{◌≡◌, ℕ, Bool, true, false, List, []}
use Rattle.std.specs.Bool.{Decides}
use Rattle.std.specs.Cmp.{IsEquivalence, decided, unsigned_Decides}
use Rattle.std.specs.Cmp.Lexicographic.{bytes_decides, pointwise_decides}
use Rattle.std.proofs.Common.{ap, sym}
use Rattle.std.proofs.lemmas.Bool.{false≢true}
use Rattle.evp_base.specs.declared.step.Step.{Step}
use Rattle.evp_base.specs.declared.step.Step.TheVariants.{Field, Index}
use Rattle.evp_base.specs.Path.{step_eq, path_eq}

-- the parts of a step, where it has them
abbrev field_name : Step → List ℕ
field_name (Field name) = name
field_name (Index index) = []

abbrev element_index : Step → ℕ
element_index (Field name) = 0
element_index (Index index) = index

abbrev is_index : Step → Bool
is_index (Field name) = false
is_index (Index index) = true

-- `==` tells which steps are the same
pub step_eq-Decides : (step other : Step) → Decides (step_eq step other) (step ≡ other)
step_eq-Decides (Field name) (Field other) =
    let same = bytes_decides name other in
    (λ told. ap Field (same.0 told), λ e. same.1 (ap field_name e))
step_eq-Decides (Index index) (Index other) =
    let same = unsigned_Decides index other in
    (λ told. ap Index (same.0 told), λ e. same.1 (ap element_index e))
step_eq-Decides (Field name) (Index other) = (λ told. absurd (false≢true told), λ e. ap is_index e)
step_eq-Decides (Index index) (Field other) =
    (λ told. absurd (false≢true told), λ e. sym (ap is_index e))

pub step_eq-equivalence : IsEquivalence step_eq
step_eq-equivalence = decided step_eq step_eq-Decides

-- `==` tells which paths are the same
pub path_eq-Decides : (path other : List Step) → Decides (path_eq path other) (path ≡ other)
path_eq-Decides = pointwise_decides step_eq-Decides

pub path_eq-equivalence : IsEquivalence path_eq
path_eq-equivalence = decided path_eq path_eq-Decides
