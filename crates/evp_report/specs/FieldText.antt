-- The parts of the text of a record's value.
use Rattle.std.specs.Prelude.{ℕ, zero, suc, List, [], ◌++◌, Option, Some, None, codes}
use Rattle.evp_format.specs.Datum.{Datum}
use Rattle.evp_format.specs.ValueText.{value_text}
use Rattle.evp_record.specs.declared.spot.Spot.{Spot}
use Rattle.evp_record.specs.Record.{Record}
use Rattle.evp_record.specs.Spots.{part_at, element_at}

-- a comma in front of each but the first
abbrev pub comma : ℕ → List ℕ
comma zero = []
comma (suc k) = codes ","

-- the text of what is there
abbrev pub text_there : Option Datum → List ℕ
text_there None = []
text_there (Some value) = value_text value

-- the text of a field's value
abbrev pub part_text : Record → Spot → ℕ → List ℕ
part_text held spot index = text_there (part_at held spot index)

-- the text of an element
abbrev pub element_text : Record → Spot → ℕ → ℕ → List ℕ
element_text held spot index k = text_there (element_at held spot index k)

-- a field of this name, as it stands among others
abbrev pub field_text : Record → Spot → ℕ → List ℕ → List ℕ
field_text held spot index name = comma index ++ name ++ codes "=" ++ part_text held spot index
