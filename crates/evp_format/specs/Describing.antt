-- The one description of a format, as bytes. Its numbers are unsigned and big endian, whatever the
-- described machine's order is.
use Rattle.std.specs.Prelude.{ℕ, zero, suc, ℤ, pos, Bool, true, false, if◌then◌else◌, List, [], ◌∷◌}
use Rattle.std.specs.Prelude.{◌++◌, length, codes}
use Rattle.std.specs.Ordering.{int_eq}
use Rattle.std.specs.List.{list_all}
use Rattle.std.specs.Fmt.{decimal}
use Rattle.evp_base.specs.declared.kind.Kind.{Kind}
use Rattle.evp_base.specs.declared.kind.Kind.TheVariants.{Int, Unsigned, Char, Boolean, Enumeration}
use Rattle.evp_base.specs.declared.order.Order.{Order}
use Rattle.evp_base.specs.declared.order.Order.TheVariants.{Little, Big}
use Rattle.evp_base.specs.Numbers.{digits}
use Rattle.evp_format.specs.declared.field.Field.{Field}
use Rattle.evp_format.specs.declared.field.Base.{Base}
use Rattle.evp_format.specs.declared.field.Base.TheVariants.{Number, Text, Nested}
use Rattle.evp_format.specs.declared.field.Shape.{Shape}
use Rattle.evp_format.specs.declared.field.Shape.TheVariants.{One, Fixed, Counted}
use Rattle.evp_format.specs.declared.record_type.RecordType.{RecordType}
use Rattle.evp_format.specs.Layout.{Layout}

-- an unsigned number of `size` bytes
abbrev pub described_number : ℕ → ℕ → List ℕ
described_number size n = digits Big size (pos n)

-- a text of at most 255 bytes behind its length
abbrev pub described_text : List ℕ → List ℕ
described_text bytes = described_number 1 (length bytes) ++ bytes

-- the word for a kind of number
abbrev pub kind_word : Kind → List ℕ
kind_word Int = codes "integer"
kind_word Unsigned = codes "unsigned integer"
kind_word Char = codes "char"
kind_word Boolean = codes "boolean"
kind_word Enumeration = codes "enumeration"

-- the name of the type of this number
abbrev pub type_name : List RecordType → ℕ → List ℕ
type_name [] k = []
type_name (type ∷ types) zero = type.name
type_name (type ∷ types) (suc k) = type_name types k

-- the name of the field of this number
abbrev pub field_name : List Field → ℕ → List ℕ
field_name [] k = []
field_name (field ∷ fields) zero = field.name
field_name (field ∷ fields) (suc k) = field_name fields k

-- the word for a base
abbrev pub base_word : List RecordType → Base → List ℕ
base_word types (Number kind) = kind_word kind
base_word types Text = codes "string"
base_word types (Nested type_number) = type_name types type_number

-- what stands behind the word: nothing, `[N]` or `[name]`
abbrev pub shape_text : List Field → Shape → List ℕ
shape_text fields One = []
shape_text fields (Fixed n) = codes "[" ++ decimal n ++ codes "]"
shape_text fields (Counted c) = codes "[" ++ field_name fields c ++ codes "]"

-- the type text of a field
abbrev pub type_text : List RecordType → List Field → Field → List ℕ
type_text types fields field = base_word types field.base ++ shape_text fields field.shape

-- a default, where defaults are stated: 16 bytes in two's complement
abbrev pub stated_number : Bool → ℤ → List ℕ
stated_number true n = digits Big 16 n
stated_number false n = []

abbrev pub described_default : Bool → Field → List ℕ
described_default stated field = stated_number stated field.fallback

abbrev pub described_field : Bool → List RecordType → List Field → Field → List ℕ
described_field stated types fields field =
    described_text field.name ++ described_text (type_text types fields field)
    ++ described_number 4 field.size ++ described_number 4 field.offset
    ++ described_default stated field

-- these fields of a type whose fields are `fields`
abbrev pub described_fields : Bool → List RecordType → List Field → List Field → List ℕ
described_fields stated types fields [] = []
described_fields stated types fields (field ∷ rest) = described_field stated types fields field
    ++ described_fields stated types fields rest

abbrev pub described_type : Bool → List RecordType → RecordType → List ℕ
described_type stated types type =
    described_text type.name ++ described_number 4 type.length
    ++ described_number 2 (length type.fields)
    ++ described_fields stated types type.fields type.fields

-- these types of a format whose types are `types`
abbrev pub described_types : Bool → List RecordType → List RecordType → List ℕ
described_types stated types [] = []
described_types stated types (type ∷ rest) = described_type stated types type
    ++ described_types stated types rest

-- the default of each field is 0
abbrev pub all_default_zero : List Field → Bool
all_default_zero fields = list_all (λ (field : Field). int_eq field.fallback (pos 0)) fields

-- some default isn't 0
abbrev pub types_state_default : List RecordType → Bool
types_state_default types = if list_all (λ (type : RecordType). all_default_zero type.fields) types
    then false else true

abbrev pub states_default : Layout → Bool
states_default layout = types_state_default layout.types

-- `NDF1` where every default is 0, else `NDF2`
abbrev pub magic : Bool → List ℕ
magic false = codes "NDF1"
magic true = codes "NDF2"

-- 0 for little endian, 1 for big endian
abbrev pub order_number : Order → ℕ
order_number Little = 0
order_number Big = 1

-- the description of a format
abbrev pub describe : Layout → List ℕ
describe layout =
    let stated = states_default layout in
    magic stated ++ described_number 1 (order_number layout.order)
    ++ described_number 1 layout.pointer ++ described_number 2 (length layout.types)
    ++ described_types stated layout.types layout.types
