-- The values of records that own their bytes, by a list of formats.
use Rattle.std.specs.Prelude.{◌≡◌, ℕ, List, Option, Some, option_map, slice_get, IsOk}
use Rattle.evp_format.specs.Datum.{Datum}
use Rattle.evp_format.specs.Layout.{Layout}
use Rattle.evp_format.specs.Viewing.{view}
use Rattle.evp_record.specs.OwnedBytes.{OwnedBytes}
use Rattle.evp_record.specs.Record.{record_of, value_of}

abbrev pub owned_of : ℕ → List ℕ → OwnedBytes
owned_of format bytes = record { format = format; bytes = bytes }

-- the format is there, and the bytes have a value in it
pub record HasValueIn (formats : List Layout) (owned : OwnedBytes) : Type 0 where
  pub layout : Layout
  pub there : slice_get formats owned.format ≡ Some layout
  pub viewed : IsOk (view layout owned.bytes)

-- the value that the bytes have in their format, where it is there
abbrev pub value_in : List Layout → OwnedBytes → Option Datum
value_in formats owned = option_map (λ layout. value_of (record_of layout owned.bytes))
    (slice_get formats owned.format)
