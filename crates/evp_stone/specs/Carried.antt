-- Records on their way, and what a stone makes of them.
use Rattle.std.specs.Prelude.{ℕ, Bool, true, ◌==◌, if◌then◌else◌, List, [], ◌∷◌}
use Rattle.std.specs.List.{flat_map}
use Rattle.evp_format.specs.Datum.{Datum}
use Rattle.evp_action.specs.declared.acted.To.{To}
use Rattle.evp_action.specs.declared.acted.To.TheVariants.{All, One}
use Rattle.evp_action.specs.declared.acted.Reason.{Reason}
use Rattle.evp_action.specs.Outcome.{Outcome, sent, dropped, arrived, refused}

-- a record on its way: its index in its source's file, the number of its format, and its value
pub record Carried : Type 0 where
  pub index : ℕ
  pub format : ℕ
  pub value : Datum

-- the same record with another format and value
abbrev pub become : Carried → ℕ → Datum → Carried
become record' format value = record { index = record'.index; format = format; value = value }

-- whether a record that is sent so goes to the target at this position
abbrev pub goes_to : ℕ → To → Bool
goes_to position All = true
goes_to position (One k) = k == position

-- what of one record goes to the target at a position
abbrev pub part_to : ℕ → Carried → Outcome → List Carried
part_to position c (sent to format value) = if goes_to position to then become c format value ∷ []
    else []
part_to position c dropped = []
part_to position c (arrived format value) = []
part_to position c (refused reason) = []

-- the record where it was received
abbrev pub part_arrived : Carried → Outcome → List Carried
part_arrived c (sent to format value) = []
part_arrived c dropped = []
part_arrived c (arrived format value) = become c format value ∷ []
part_arrived c (refused reason) = []

-- its index and the reason where it was refused
abbrev pub part_refused : Carried → Outcome → List (ℕ × Reason)
part_refused c (sent to format value) = []
part_refused c dropped = []
part_refused c (arrived format value) = []
part_refused c (refused reason) = (c.index, reason) ∷ []

-- 1 where it went on or was received: once, however many targets it goes to
abbrev pub one_passed : Outcome → ℕ
one_passed (sent to format value) = 1
one_passed dropped = 0
one_passed (arrived format value) = 1
one_passed (refused reason) = 0

abbrev pub one_dropped : Outcome → ℕ
one_dropped (sent to format value) = 0
one_dropped dropped = 1
one_dropped (arrived format value) = 0
one_dropped (refused reason) = 0

-- what a stone does with a record: by the stone's number, the record's format and its value
abbrev pub Acts : Type 0
Acts = ℕ → ℕ → Datum → Outcome

module _ (act : Acts) (stone : ℕ) where
  abbrev pub outcome_of : Carried → Outcome
  outcome_of c = act stone c.format c.value

  -- what the stone sends of these records to the target at a position, in order, indexes kept
  abbrev pub sent_on : ℕ → List Carried → List Carried
  sent_on position records = flat_map (λ c. part_to position c (outcome_of c)) records
