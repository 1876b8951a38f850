-- The types of a format so far, and what may follow them.
use Rattle.std.specs.Prelude.{◌≡◌, ◌≢◌, ℕ, ◌+◌, ◌<◌, ◌≤◌, false, ◌⊎◌, List, length, take, slice_get}
use Rattle.std.specs.Prelude.{map, Some, All}
use Rattle.evp_format.specs.declared.record_type.RecordType.{RecordType}
use Rattle.evp_format.specs.Drafts.{has_type, depth_behind}
use Rattle.evp_format.specs.Tree.{trees}
use Rattle.evp_format.specs.WellLaid.{IsLaidType, depth, all_fields}

-- the types so far, on a machine whose pointers have so many bytes
pub record SoFar : Type 0 where
  pub pointer : ℕ
  pub types : List RecordType

abbrev pub so_far : ℕ → List RecordType → SoFar
so_far pointer types = record { pointer = pointer; types = types }

-- a type that may follow these: it is well laid behind them, none of them has its name, and with it
-- no limit is passed
pub record MayFollow (pointer : ℕ) (earlier : List RecordType) (type : RecordType) : Type 0 where
  pub is : IsLaidType pointer earlier type
  pub fresh : has_type earlier type.name ≡ false
  pub shallow : depth_behind earlier type ≤ 16
  pub few : all_fields earlier + length type.fields ≤ 4096

-- types each of which may follow those before it
pub record AreLaid (pointer : ℕ) (types : List RecordType) : Type 0 where
  pub each : (k : ℕ) (type : RecordType) → slice_get types k ≡ Some type
      → IsLaidType pointer (take k types) type
  pub shallow : (k : ℕ) (type : RecordType) → slice_get types k ≡ Some type
      → depth_behind (take k types) type ≤ 16
  pub names_differ : (i j : ℕ) (type other : RecordType) → i < j → slice_get types i ≡ Some type
      → slice_get types j ≡ Some other → type.name ≢ other.name
  pub few : all_fields types ≤ 4096

-- what is kept of the types so far: how deep each nests, and the number of their fields
pub record AreKept (pointer : ℕ) (types : List RecordType) (depths : List ℕ) (fields : ℕ) : Type 0
  where
    pub pointer_allowed : (pointer ≡ 4) ⊎ (pointer ≡ 8)
    pub laid : AreLaid pointer types
    pub few : length types ≤ 64
    pub nested : take (length types) depths ≡ map depth (trees types)
    pub shallow : All (λ depth. depth ≤ 16) (take (length types) depths)
    pub counted : fields ≡ all_fields types
