-- What a pass keeps of a pair that it has met.
use Rattle.std.specs.Prelude.{◌≡◌, ℕ, Option, Some, None, [], option_map}
use Rattle.std.specs.Global.{Box}
use Rattle.evp_cache.specs.declared.found.Found.{Found}
use Rattle.evp_cache.specs.declared.found.Found.TheVariants.{Clash}
use Rattle.evp_cache.specs.declared.met.Met.{Met}
use Rattle.evp_cache.specs.Finding.{Finding}
use Rattle.evp_cache.specs.Known.{Known, known}

-- the first that there is
abbrev pub either : {X : Type 0} → Option X → Option X → Option X
either (Some x) other = Some x
either None other = other

abbrev pub value_in : Option (Box Finding) → Option Finding
value_in own = option_map (λ kept. kept.value) own

-- what is kept for the pair: by the pass itself, else by the cell, as the note knows
abbrev pub kept_of : Met → Option Finding
kept_of met = either (value_in met.own) met.note.known

-- what it tells
abbrev pub found_of : Option Finding → Found
found_of (Some finding) = finding.found
found_of None = Clash []

-- the cell that keeps it
abbrev pub cell_of : Option (Box Finding) → ℕ → Option ℕ
cell_of (Some own) name = None
cell_of None name = Some name

abbrev pub known_of : Met → Known
known_of met = known met.from met.to (cell_of met.own met.note.cell) (found_of (kept_of met))

-- it is of the pair with these numbers and of the cell with this name
abbrev pub IsMet : ℕ → ℕ → ℕ → Met → Type 0
IsMet from to cell met = (met.from ≡ from) × (met.to ≡ to) × (met.note.cell ≡ cell)
