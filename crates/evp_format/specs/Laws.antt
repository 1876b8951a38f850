-- Laws of formats and their values, as statements.
use Rattle.std.specs.Prelude.{◌≡◌, ℕ, ◌<◌, ◌≤◌, List, ◌++◌, length, get_or, None}
use Rattle.evp_format.specs.declared.record_type.RecordType.{RecordType}
use Rattle.evp_format.specs.Clashing.{clash}
use Rattle.evp_format.specs.Converting.{made, convert}
use Rattle.evp_format.specs.Datum.{Datum}
use Rattle.evp_format.specs.Layout.{Layout}
use Rattle.evp_format.specs.Packing.{packed_size}
use Rattle.evp_format.specs.Tree.{empty_tree, trees}
use Rattle.evp_format.specs.Typed.{IsOf}
use Rattle.evp_format.specs.WellLaid.{IsWellLaid}
use Rattle.evp_format.specs.Zero.{zero_of}

-- the tree of an earlier type doesn't depend on later types
abbrev pub EarlierTreesStay : Type 0
EarlierTreesStay =
    (types more : List RecordType) (k : ℕ) → k < length types
    → get_or (trees (types ++ more)) k empty_tree ≡ get_or (trees types) k empty_tree

-- the zero of a well laid format is of that format
abbrev pub ZeroIsOfFormat : Type 0
ZeroIsOfFormat = (layout : Layout) → IsWellLaid layout → IsOf layout (zero_of layout)

-- a value of the format, of this packed size, which is within the limit
pub record IsReceivers (to : Layout) (limit : ℕ) (value : Datum) (size : ℕ) : Type 0 where
  pub of_format : IsOf to value
  pub packed : packed_size to value ≡ size
  pub within : size ≤ limit

-- what a value is converted to is the receiver's, for well laid formats that don't clash
abbrev pub ConvertedIsReceivers : Type 0
ConvertedIsReceivers =
    (from to : Layout) (value result : Datum) (limit size : ℕ) → IsWellLaid from → IsWellLaid to
    → clash from to ≡ None → IsOf from value
    → convert to value limit ≡ made result size → IsReceivers to limit result size

-- a value converted to its own format is that value, where the limit allows its packed size
abbrev pub ConvertedToItself : Type 0
ConvertedToItself =
    (layout : Layout) (value : Datum) (limit : ℕ) → IsWellLaid layout → IsOf layout value
    → packed_size layout value ≤ limit
    → convert layout value limit ≡ made value (packed_size layout value)
