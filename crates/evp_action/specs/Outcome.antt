-- What comes of a record at a stone.
use Rattle.std.specs.Prelude.{ℕ}
use Rattle.evp_action.specs.declared.acted.Reason.{Reason}
use Rattle.evp_action.specs.declared.acted.To.{To}
use Rattle.evp_format.specs.Datum.{Datum}

pub data Outcome : Type 0 where
  -- to where, in the format of this number, with this value
  sent : To → ℕ → Datum → Outcome
  dropped : Outcome
  -- in the format of this number, with this value
  arrived : ℕ → Datum → Outcome
  refused : Reason → Outcome
