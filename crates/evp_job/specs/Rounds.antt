-- The rounds of a job document.
use Rattle.std.specs.Prelude.{ℕ, nat_eq, nat_lt, List, [], ◌∷◌, length, codes, Option, Some}
use Rattle.std.specs.Prelude.{Result, Ok}
use Rattle.evp_base.specs.declared.step.Step.TheVariants.{Field}
use Rattle.evp_job.specs.declared.fault.JobFault.{JobFault}
use Rattle.evp_job.specs.Forms.{misformed, whole_number, number_within, list_in, list_within}
use Rattle.evp_job.specs.Forms.{object_in, no_others}
use Rattle.evp_job.specs.Steps.{◌>>=◌, only_if, under, each_in}
use Rattle.evp_stone.specs.declared.round.Round.{Round}
use Rattle.serde_json.specs.Data.{Data}
use Rattle.serde_json.specs.Find.{get}

abbrev pub round_with : List ℕ → List ℕ → Round
round_with submit frozen = record { submit = submit; frozen = frozen }

unfoldable pub submitted : Data → Result ℕ JobFault
submitted value = number_within 0 131072 (Some value)

-- one number for each of so many sources
unfoldable pub submit_in : ℕ → Option Data → Result (List ℕ) JobFault
submit_in sources value = do
  values ← list_in value
  right ← only_if (nat_eq (length values) sources) misformed
  each_in submitted values

-- the number of one of so many stones
unfoldable pub stone_of : ℕ → Data → Result ℕ JobFault
stone_of stones value = do
  n ← whole_number (Some value)
  there ← only_if (nat_lt n stones) misformed
  Ok n

unfoldable pub frozen_in : ℕ → Option Data → Result (List ℕ) JobFault
frozen_in stones value = do
  values ← list_in value
  each_in (stone_of stones) values

-- a round of so many sources and stones
unfoldable pub round_in : ℕ → ℕ → Data → Result Round JobFault
round_in sources stones value = do
  object ← object_in value
  submit ← under (Field (codes "submit")) (submit_in sources (get (codes "submit") object))
  frozen ← under (Field (codes "frozen")) (frozen_in stones (get (codes "frozen") object))
  alone ← no_others (codes "submit" ∷ codes "frozen" ∷ []) object
  Ok (round_with submit frozen)

unfoldable pub rounds_in : ℕ → ℕ → Option Data → Result (List Round) JobFault
rounds_in sources stones value = do
  values ← list_within 1 64 value
  each_in (round_in sources stones) values
