-- Packed records, and what may be stored in one.
use Rattle.std.specs.Prelude.{◌≡◌, ℕ, ◌-◌, ◌^◌, ◌<◌, ℤ, List, length, IfSome}
use Rattle.evp_format.specs.Class.{field_at}
use Rattle.evp_format.specs.Datum.{rec, Entries}
use Rattle.evp_format.specs.Layout.{Layout}
use Rattle.evp_format.specs.Packing.{pack, packed_size}
use Rattle.evp_format.specs.Typed.{IsOf}
use Rattle.evp_format.specs.WellLaid.{IsNumberIn}

-- the bytes are the packed record of these fields, which are the format's
pub record IsPacked (layout : Layout) (entries : Entries) (bytes : List ℕ) : Type 0 where
  pub of_format : IsOf layout (rec entries)
  pub packed : bytes ≡ pack layout (rec entries)
  pub small : packed_size layout (rec entries) < 2 ^ 32

-- the bytes are a packed record
abbrev pub IsPackedRecord : Layout → List ℕ → Type 0
IsPackedRecord layout bytes = (entries : Entries) × IsPacked layout entries bytes

-- a number in the range of the record's field of this number
abbrev pub FitsField : Layout → ℕ → ℤ → Type 0
FitsField layout number n = IfSome (field_at layout (length layout.types - 1) number)
    (λ field. IsNumberIn field.base field.size n)
