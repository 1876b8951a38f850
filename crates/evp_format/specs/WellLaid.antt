-- What makes a format well laid: names, sizes, places, counts and defaults, and the limits of this
-- middleware.
use Rattle.std.specs.Prelude.{◌≡◌, ◌≢◌, ℕ, suc, ◌+◌, ◌*◌, ◌≤◌, ◌<◌, ℤ, pos, Bool, false, not, ◌&&◌}
use Rattle.std.specs.Prelude.{◌||◌, IsTrue, ◌⊎◌, List, length, take, max, slice_get, sum, map}
use Rattle.std.specs.Prelude.{codes, Some, ⊤}
use Rattle.evp_base.specs.declared.kind.Kind.TheVariants.{Int, Unsigned, Char, Boolean, Enumeration}
use Rattle.evp_base.specs.Name.{is_name}
use Rattle.evp_base.specs.Numbers.{is_size_of, InRange}
use Rattle.evp_format.specs.declared.field.Base.{Base}
use Rattle.evp_format.specs.declared.field.Base.TheVariants.{Number, Text, Nested}
use Rattle.evp_format.specs.declared.field.Field.{Field}
use Rattle.evp_format.specs.declared.field.Shape.{Shape}
use Rattle.evp_format.specs.declared.field.Shape.TheVariants.{One, Fixed, Counted}
use Rattle.evp_format.specs.declared.record_type.RecordType.{RecordType}
use Rattle.evp_format.specs.Bytes.{bytes_equal}
use Rattle.evp_format.specs.Layout.{Layout}
use Rattle.evp_format.specs.Tree.{Tree, tree, Branches, no_fields, branch, Part, number_part}
use Rattle.evp_format.specs.Tree.{text_part, tree_part, tree_of}

-- the words that no record type may have as its name
abbrev pub is_reserved : List ℕ → Bool
is_reserved name =
    bytes_equal name (codes "integer") || (bytes_equal name (codes "unsigned")
    || (bytes_equal name (codes "char") || (bytes_equal name (codes "boolean")
    || (bytes_equal name (codes "enumeration")
    || (bytes_equal name (codes "string") || bytes_equal name (codes "float"))))))

-- a record type's name
abbrev pub is_type_name : List ℕ → Bool
is_type_name text = is_name text && not (is_reserved text)

-- the bytes that a field takes inside its record: a counted array leaves a pointer there
abbrev pub shape_extent : ℕ → Shape → ℕ → ℕ
shape_extent pointer One size = size
shape_extent pointer (Fixed n) size = n * size
shape_extent pointer (Counted c) size = pointer

abbrev pub extent : ℕ → Field → ℕ
extent pointer field = shape_extent pointer field.shape field.size

-- the size that a base may have: a number's by its kind, a string the pointer's, a record that of
-- its type
abbrev pub HasBaseSize : ℕ → List RecordType → Base → ℕ → Type 0
HasBaseSize pointer earlier (Number kind) size = IsTrue (is_size_of kind size)
HasBaseSize pointer earlier Text size = size ≡ pointer
HasBaseSize pointer earlier (Nested type_number) size = (type : RecordType)
    × (slice_get earlier type_number ≡ Some type) × (size ≡ type.length)

-- a kind that may count an array's elements
abbrev pub CountsElements : Base → Type 0
CountsElements (Number Int) = ⊤
CountsElements (Number Unsigned) = ⊤
CountsElements (Number Char) = ⊥
CountsElements (Number Boolean) = ⊥
CountsElements (Number Enumeration) = ⊥
CountsElements Text = ⊥
CountsElements (Nested type_number) = ⊥

-- the count of a counted array: a single `integer` or `unsigned integer` field of the same type
abbrev pub IsCountField : List Field → ℕ → Type 0
IsCountField fields c = (field : Field) × (slice_get fields c ≡ Some field) × (field.shape ≡ One)
    × CountsElements field.base

-- 1 to 65,536 elements inside the record, or as many as a count field says
abbrev pub HasShape : List Field → Shape → Type 0
HasShape fields One = ⊤
HasShape fields (Fixed n) = (1 ≤ n) × (n ≤ 65536)
HasShape fields (Counted c) = IsCountField fields c

-- no counted array of the type has field k as its count
abbrev pub CountsNothing : List Field → ℕ → Type 0
CountsNothing fields k = (i : ℕ) (field : Field) → slice_get fields i ≡ Some field
    → field.shape ≢ Counted k

-- a number in the range of the base
abbrev pub IsNumberIn : Base → ℕ → ℤ → Type 0
IsNumberIn (Number kind) size n = InRange kind size n
IsNumberIn Text size n = ⊥
IsNumberIn (Nested type_number) size n = ⊥

-- a default other than 0: of a single number field, in its range, which counts nothing
pub record StatesDefault (fields : List Field) (k : ℕ) (field : Field) : Type 0 where
  pub single : field.shape ≡ One
  pub in_range : IsNumberIn field.base field.size field.fallback
  pub counts_nothing : CountsNothing fields k

-- field k of a type of this length, whose fields are `fields`
pub record IsLaidField (pointer : ℕ) (earlier : List RecordType) (length : ℕ) (fields : List Field)
    (k : ℕ) (field : Field) : Type 0 where
  pub named : IsTrue (is_name field.name)
  pub size_allowed : HasBaseSize pointer earlier field.base field.size
  pub shape_allowed : HasShape fields field.shape
  pub inside : field.offset + extent pointer field ≤ length
  pub default_allowed : (field.fallback ≡ pos 0) ⊎ StatesDefault fields k field

-- the bytes of the two fields are apart
abbrev pub AreApart : ℕ → Field → Field → Type 0
AreApart pointer field other = (field.offset + extent pointer field ≤ other.offset)
    ⊎ (other.offset + extent pointer other ≤ field.offset)

-- a type behind these earlier ones
pub record IsLaidType (pointer : ℕ) (earlier : List RecordType) (type : RecordType) : Type 0 where
  pub named : IsTrue (is_name type.name)
  pub not_reserved : is_reserved type.name ≡ false
  pub length_allowed : (1 ≤ type.length) × (type.length ≤ 65536)
  pub fields_allowed : (1 ≤ length type.fields) × (length type.fields ≤ 1024)
  pub names_differ : (i j : ℕ) (field other : Field) → i < j → slice_get type.fields i ≡ Some field
      → slice_get type.fields j ≡ Some other → field.name ≢ other.name
  pub each_field : (k : ℕ) (field : Field) → slice_get type.fields k ≡ Some field
      → IsLaidField pointer earlier type.length type.fields k field
  pub apart : (i j : ℕ) (field other : Field) → i < j → slice_get type.fields i ≡ Some field
      → slice_get type.fields j ≡ Some other → AreApart pointer field other

abbrev mutual
  -- how deep types nest: one without nested types is 1
  pub depth : Tree → ℕ
  depth (tree length branches) = suc (branches_depth branches)

  pub branches_depth : Branches → ℕ
  branches_depth no_fields = 0
  branches_depth (branch field part rest) = max (part_depth part) (branches_depth rest)

  pub part_depth : Part → ℕ
  part_depth (number_part kind) = 0
  part_depth text_part = 0
  part_depth (tree_part nested) = depth nested

-- the fields of all types
abbrev pub all_fields : List RecordType → ℕ
all_fields types = sum (map (λ (type : RecordType). length type.fields) types)

pub record IsWellLaid (layout : Layout) : Type 0 where
  pub pointer_allowed : (layout.pointer ≡ 4) ⊎ (layout.pointer ≡ 8)
  pub types_allowed : (1 ≤ length layout.types) × (length layout.types ≤ 64)
  pub fields_allowed : all_fields layout.types ≤ 4096
  pub names_differ : (i j : ℕ) (type other : RecordType) → i < j
      → slice_get layout.types i ≡ Some type → slice_get layout.types j ≡ Some other
      → type.name ≢ other.name
  pub each_type : (k : ℕ) (type : RecordType) → slice_get layout.types k ≡ Some type
      → IsLaidType layout.pointer (take k layout.types) type
  pub nesting_allowed : (k : ℕ) → k < length layout.types → depth (tree_of layout k) ≤ 16
