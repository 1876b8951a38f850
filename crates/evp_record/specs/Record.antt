-- A record: bytes that have a value in a format.
use Rattle.std.specs.Prelude.{ℕ, ◌^◌, ◌<◌, List, length, Result, Ok, Err, IsOk}
use Rattle.evp_format.specs.declared.broken.Broken.{Broken}
use Rattle.evp_format.specs.Datum.{Datum, null}
use Rattle.evp_format.specs.Layout.{Layout}
use Rattle.evp_format.specs.Viewing.{view}

pub record Record : Type 0 where
  pub layout : Layout
  pub bytes : List ℕ

-- fewer than 2^32 bytes, which have a value
pub record IsRecord (held : Record) : Type 0 where
  pub short : length held.bytes < 2 ^ 32
  pub viewed : IsOk (view held.layout held.bytes)

-- the value where there is one
abbrev pub value_or_null : Result Datum Broken → Datum
value_or_null (Ok value) = value
value_or_null (Err fault) = null

-- the value of a record
abbrev pub value_of : Record → Datum
value_of held = value_or_null (view held.layout held.bytes)

abbrev pub record_of : Layout → List ℕ → Record
record_of layout bytes = record { layout = layout; bytes = bytes }
