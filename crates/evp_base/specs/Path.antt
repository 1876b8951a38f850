-- The text of a path: names joined by `.`, an index in brackets, and `.` where there is no step.
use Rattle.std.specs.Prelude.{ℕ, Bool, false, ◌==◌, nat_eq, List, [], ◌∷◌, ◌++◌}
use Rattle.std.specs.List.{flat_map}
use Rattle.std.specs.Fmt.{decimal}
use Rattle.std.specs.Cmp.Lexicographic.{pointwise}
use Rattle.evp_base.specs.declared.step.Step.{Step}
use Rattle.evp_base.specs.declared.step.Step.TheVariants.{Field, Index}

-- a step by itself: a name, or an index as `[3]`
abbrev pub step_text : Step → List ℕ
step_text (Field name) = name
step_text (Index index) = 91 ∷ decimal index ++ 93 ∷ []

-- a step behind others: a name has a `.` in front
abbrev pub joined_text : Step → List ℕ
joined_text (Field name) = 46 ∷ name
joined_text (Index index) = step_text (Index index)

abbrev pub path_text : List Step → List ℕ
path_text [] = 46 ∷ []
path_text (first ∷ others) = step_text first ++ flat_map joined_text others

-- whether two steps are the same
abbrev pub step_eq : Step → Step → Bool
step_eq (Field name) (Field other) = pointwise nat_eq name other
step_eq (Index index) (Index other) = index == other
step_eq (Field name) (Index other) = false
step_eq (Index index) (Field other) = false

-- whether two paths are the same
abbrev pub path_eq : List Step → List Step → Bool
path_eq = pointwise step_eq
