-- How a name is kept: its bytes, then zeros up to 64, and how many bytes it has.
use Rattle.std.specs.Prelude.{◌≡◌, ℕ, List, length, take}
use Rattle.evp_base.specs.declared.name.Name.TheInside.{Inside}
use Rattle.evp_base.specs.Name.{padded, IsPadded}

-- the fields of a name
abbrev pub fields_of : List ℕ → Inside
fields_of name = record { bytes = padded name; used = length name }

-- the fields are those of the name that they hold
pub fields_of-take : (kept : Inside) → IsPadded kept.used kept.bytes
    → fields_of (take kept.used kept.bytes) ≡ kept
fields_of-take kept holds = λ i. record { bytes = holds.padding i; used = holds.counted i }
