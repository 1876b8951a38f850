-- The steps of a plan with the inner steps that they refer to put in their place.
use Rattle.std.specs.Prelude.{◌≡◌, ℕ, ◌-◌, ◌<◌, List, [], ◌∷◌, ◌++◌, length, get_or, slice_get, Option, Some}
use Rattle.std.specs.Prelude.{None}
use Rattle.evp_plan.specs.declared.step.Step.{Step}
use Rattle.evp_plan.specs.declared.step.Task.{Task}

-- tasks in order, each with the program that makes a record inside the field
pub data Program : Type 0 where
  no_steps : Program
  performs : Task → Program → Program → Program

-- the program of that number
abbrev pub inner_program : List Program → Option ℕ → Program
inner_program earlier None = no_steps
inner_program earlier (Some n) = get_or earlier n no_steps

-- steps, where the programs of the earlier lists of steps are these
abbrev pub program_of : List Program → List Step → Program
program_of earlier [] = no_steps
program_of earlier (step ∷ steps) = performs step.task (inner_program earlier step.inner)
    (program_of earlier steps)

-- the earlier programs, followed by those of these lists of steps
abbrev pub programs_behind : List Program → List (List Step) → List Program
programs_behind earlier [] = earlier
programs_behind earlier (steps ∷ table) = programs_behind (earlier ++ program_of earlier steps ∷ [])
    table

-- the program of each list of steps, in order
abbrev pub programs : List (List Step) → List Program
programs table = programs_behind [] table

-- the program of the list of this number
abbrev pub program_at : List (List Step) → ℕ → Program
program_at table n = get_or (programs table) n no_steps

-- the list that makes the record
abbrev pub last_steps : List (List Step) → List Step
last_steps table = get_or table (length table - 1) []

-- inner steps stand before the steps that refer to them
abbrev pub IsOrdered : List (List Step) → Type 0
IsOrdered table =
    (n k m : ℕ) (steps : List Step) (step : Step) → slice_get table n ≡ Some steps
    → slice_get steps k ≡ Some step → step.inner ≡ Some m → m < n
