-- The account of one round of a route.
use Rattle.std.specs.Prelude.{ℕ, List, length}
use Rattle.std.specs.List.{flat_map, sum_by}
use Rattle.evp_action.specs.declared.acted.Reason.{Reason}
use Rattle.evp_stone.specs.Carried.{Carried, Acts, outcome_of, part_arrived, part_refused}
use Rattle.evp_stone.specs.Carried.{one_passed, one_dropped}
use Rattle.evp_stone.specs.Rounds.{Worked}

-- how many records went on or were received, and how many were dropped; the index and the reason
-- of each that was refused, and each that was received, in order; how many the stone keeps
pub record Tally : Type 0 where
  pub passed : ℕ
  pub dropped : ℕ
  pub refused : List (ℕ × Reason)
  pub arrived : List Carried
  pub held : ℕ

module _ (act : Acts) (stone : ℕ) where
  -- of the records that the stone acted on, where it keeps so many
  abbrev pub tally_of : List Carried → ℕ → Tally
  tally_of done held = record {
    passed = sum_by (λ c. one_passed (outcome_of act stone c)) done;
    dropped = sum_by (λ c. one_dropped (outcome_of act stone c)) done;
    refused = flat_map (λ c. part_refused c (outcome_of act stone c)) done;
    arrived = flat_map (λ c. part_arrived c (outcome_of act stone c)) done;
    held = held;
  }

  abbrev pub account_of : Worked → Tally
  account_of round = tally_of round.done (length round.held)
