-- When what an action did with a record is the outcome.
use Rattle.std.specs.Prelude.{◌≡◌, ℕ, List, Ok, Some, slice_get}
use Rattle.std.specs.Arc.{arc_value}
use Rattle.evp_action.specs.declared.acted.Acted.{Acted}
use Rattle.evp_action.specs.declared.acted.Acted.TheVariants.{Sent, Dropped, Arrived, Refused}
use Rattle.evp_action.specs.Outcome.{Outcome, sent, dropped, arrived, refused}
use Rattle.evp_format.specs.Datum.{Datum}
use Rattle.evp_format.specs.Layout.{Layout}
use Rattle.evp_format.specs.Viewing.{view}
use Rattle.evp_record.specs.OwnedBytes.{OwnedBytes}

-- the bytes have this value in the record's format, which is there
pub record HasValue (formats : List Layout) (owned : OwnedBytes) (value : Datum) : Type 0 where
  pub layout : Layout
  pub there : slice_get formats owned.format ≡ Some layout
  pub viewed : view layout owned.bytes ≡ Ok value

-- the outcome is this one of the number of the record's format and of its value
pub record IsComeOf (formats : List Layout) (outcome : Outcome) (what : ℕ → Datum → Outcome)
    (owned : OwnedBytes) : Type 0 where
  pub value : Datum
  pub has : HasValue formats owned value
  pub is : outcome ≡ what owned.format value

-- the action did what the outcome says: a record that came through has the outcome's format and
-- value
abbrev pub IsActed : List Layout → Outcome → Acted → Type 0
IsActed formats outcome (Sent to owned) = IsComeOf formats outcome (sent to) (arc_value owned)
IsActed formats outcome Dropped = outcome ≡ dropped
IsActed formats outcome (Arrived owned) = IsComeOf formats outcome arrived (arc_value owned)
IsActed formats outcome (Refused reason) = outcome ≡ refused reason
