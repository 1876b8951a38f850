-- All that doing an action with a record does, where a refusal isn't an answer yet.
use Rattle.std.specs.Prelude.{ℕ, List, Result, Ok, Err}
use Rattle.evp_action.specs.declared.acted.Acted.{Acted}
use Rattle.evp_action.specs.declared.refusal.Refusal.{Refusal}
use Rattle.evp_action.specs.Asking.{Keeps, Asks, BuildsFor}
use Rattle.evp_action.specs.Converted.{IsRefused, spare}
use Rattle.evp_action.specs.Outcome.{Outcome}
use Rattle.evp_action.specs.Performed.{HasValue, IsActed}
use Rattle.evp_cache.specs.Known.{Cells, Known}
use Rattle.evp_format.specs.Datum.{Datum}
use Rattle.evp_format.specs.Layout.{Layout}
use Rattle.evp_record.specs.OwnedBytes.{OwnedBytes}

-- what was done is the outcome, or it is refused for the outcome's cause
abbrev pub IsAnswer : List Layout → Outcome → Result Acted Refusal → Type 0
IsAnswer formats outcome (Ok acted) = IsActed formats outcome acted
IsAnswer formats outcome (Err cause) = IsRefused outcome cause

-- the answer is the outcome for the record's value, the pass learns of these pairs at most, and as
-- many plans are built
pub record Works (cells : Cells) (formats : List Layout) (owned : OwnedBytes)
    (outcome : Datum → Outcome) (pairs : Datum → List (ℕ × ℕ)) (old new : List Known)
    (before after : ℕ) (answer : Result Acted Refusal) : Type 0 where
  pub answers : (value : Datum) → HasValue formats owned value
      → IsAnswer formats (outcome value) answer
  pub keeps : Keeps cells formats old new
  pub asks : (value : Datum) → HasValue formats owned value → Asks (pairs value) old new
  pub builds : BuildsFor (spare answer) old new before after
