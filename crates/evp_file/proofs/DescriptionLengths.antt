-- A description's length is a number of 4 bytes.
use Rattle.std.proofs.Common.{◌≡◌, ℕ, zero, suc, ◌+◌, ◌*◌, ◌^◌, ◌<◌, ◌≤◌, ℤ, pos, Bool, true, false, List, [], ◌∷◌, ◌++◌, length, take}
use Rattle.std.proofs.Common.{codes, Some, IsTrue, refl, subst, length-append, arith}
use Rattle.std.specs.Prelude.{slice_get}
use Rattle.std.specs.Fmt.{decimal}
use Rattle.std.proofs.lemmas.Fmt.{length-decimal-le}
use Rattle.evp_base.specs.declared.kind.Kind.{Kind}
use Rattle.evp_base.specs.declared.kind.Kind.TheVariants.{Int, Unsigned, Char, Boolean, Enumeration}
use Rattle.evp_base.specs.declared.order.Order.TheVariants.{Big}
use Rattle.evp_base.proofs.NameLemmas.{length-name}
use Rattle.evp_base.proofs.Numbers.{length-digits}
use Rattle.evp_format.specs.declared.field.Base.{Base}
use Rattle.evp_format.specs.declared.field.Base.TheVariants.{Number, Text, Nested}
use Rattle.evp_format.specs.declared.field.Field.{Field}
use Rattle.evp_format.specs.declared.field.Shape.{Shape}
use Rattle.evp_format.specs.declared.field.Shape.TheVariants.{One, Fixed, Counted}
use Rattle.evp_format.specs.declared.record_type.RecordType.{RecordType}
use Rattle.evp_format.specs.Describing.{described_number, described_text, kind_word, type_name, field_name, base_word, shape_text}
use Rattle.evp_format.specs.Describing.{type_text, described_default, described_field, described_fields, described_type, described_types}
use Rattle.evp_format.specs.Describing.{states_default, magic, order_number, describe}
use Rattle.evp_format.specs.Layout.{Layout}
use Rattle.evp_format.specs.WellLaid.{HasShape, IsLaidField, IsLaidType, IsWellLaid}
use Rattle.evp_file.proofs.Lists.{Each}

-- a fact of each element by its number, one after the other
each_by_number : {A : Type 0} (P : A → Type 0) (xs : List A) → ((k : ℕ) (x : A) → slice_get xs k ≡ Some x → P x) → Each P xs
each_by_number P [] each = tt
each_by_number P (x ∷ xs) each = (each 0 x refl, each_by_number P xs (λ k y there. each (suc k) y there))

-- ---- lengths of parts

length-number : (size n : ℕ) → length (described_number size n) ≡ size
length-number size n = length-digits Big size (pos n)

length-text : (text : List ℕ) → length (described_text text) ≡ 1 + length text
length-text text =
    let long = length-append (described_number 1 (length text)) text in
    let one = length-number 1 (length text) in
    omega (arith, long, one)

length-default : (stated : Bool) (field : Field) → length (described_default stated field) ≤ 16
length-default true field = let long = length-digits Big 16 field.fallback in omega (arith, long)
length-default false field = omega arith

-- ---- type texts

short_kind : (kind : Kind) → length (kind_word kind) ≤ 64
short_kind Int = omega arith
short_kind Unsigned = omega arith
short_kind Char = omega arith
short_kind Boolean = omega arith
short_kind Enumeration = omega arith

abbrev AreShortTypes : List RecordType → Type 0
AreShortTypes types = Each (λ (type : RecordType). length type.name ≤ 64) types

abbrev AreShortFields : List Field → Type 0
AreShortFields fields = Each (λ (field : Field). length field.name ≤ 64) fields

short_type_name : (types : List RecordType) (k : ℕ) → AreShortTypes types → length (type_name types k) ≤ 64
short_type_name [] k short = omega arith
short_type_name (type ∷ types) zero short = short.0
short_type_name (type ∷ types) (suc k) short = short_type_name types k short.1

short_field_name : (fields : List Field) (k : ℕ) → AreShortFields fields → length (field_name fields k) ≤ 64
short_field_name [] k short = omega arith
short_field_name (field ∷ fields) zero short = short.0
short_field_name (field ∷ fields) (suc k) short = short_field_name fields k short.1

short_base : (types : List RecordType) (base : Base) → AreShortTypes types → length (base_word types base) ≤ 64
short_base types (Number kind) short = short_kind kind
short_base types Text short = omega arith
short_base types (Nested k) short = short_type_name types k short

bracketed : (text : List ℕ) → length text ≤ 64 → length (codes "[" ++ text ++ codes "]") ≤ 66
bracketed text short =
    let long = length-append (codes "[" ++ text) (codes "]") in
    let long' = length-append (codes "[") text in
    omega (arith, short, long, long')

short_shape : (fields : List Field) (shape : Shape) → AreShortFields fields → HasShape fields shape
    → length (shape_text fields shape) ≤ 66
short_shape fields One short has = omega arith
short_shape fields (Fixed n) short has =
    let most : n ≤ 65536 = has.1 in
    let digits = length-decimal-le 5 n (omega arith) (omega (arith, most)) (omega (arith, most)) in
    bracketed (decimal n) (omega (arith, digits))
short_shape fields (Counted c) short has = bracketed (field_name fields c) (short_field_name fields c short)

-- ---- fields and types

five : (a b c d e : List ℕ) → length (a ++ b ++ c ++ d ++ e) ≡ length a + length b + length c + length d + length e
five a b c d e =
    let l1 = length-append (a ++ b ++ c ++ d) e in
    let l2 = length-append (a ++ b ++ c) d in
    let l3 = length-append (a ++ b) c in
    let l4 = length-append a b in
    omega (arith, l1, l2, l3, l4)

four : (a b c d : List ℕ) → length (a ++ b ++ c ++ d) ≡ length a + length b + length c + length d
four a b c d =
    let l1 = length-append (a ++ b ++ c) d in
    let l2 = length-append (a ++ b) c in
    let l3 = length-append a b in
    omega (arith, l1, l2, l3)

-- what a field's length follows from
record IsShortField (fields : List Field) (field : Field) : Type 0 where
  name : length field.name ≤ 64
  shape : HasShape fields field.shape

short_field : (stated : Bool) (types : List RecordType) (fields : List Field) (field : Field) → AreShortTypes types
    → AreShortFields fields → IsShortField fields field
    → length (described_field stated types fields field) ≤ 345
short_field stated types fields field types_short fields_short is =
    let text = type_text types fields field in
    let name = is.name in
    let l0 = length-text field.name in
    let l1 = length-text text in
    let l2 = length-number 4 field.size in
    let l3 = length-number 4 field.offset in
    let l4 = length-default stated field in
    let whole = five (described_text field.name) (described_text text) (described_number 4 field.size) (described_number 4 field.offset)
    (described_default stated field) in
    let base = short_base types field.base types_short in
    let shape = short_shape fields field.shape fields_short is.shape in
    let both = length-append (base_word types field.base) (shape_text fields field.shape) in
    omega (arith, name, l0, l1, l2, l3, l4, whole, base, shape, both)

short_fields : (stated : Bool) (types : List RecordType) (all fields : List Field) → AreShortTypes types → AreShortFields all
    → Each (IsShortField all) fields
    → length (described_fields stated types all fields) ≤ 345 * length fields
short_fields stated types all [] types_short all_short are = omega arith
short_fields stated types all (field ∷ fields) types_short all_short are =
    let first = short_field stated types all field types_short all_short are.0 in
    let rest = short_fields stated types all fields types_short all_short are.1 in
    let long = length-append (described_field stated types all field) (described_fields stated types all fields) in
    omega (arith, first, rest, long)

-- what a type's length follows from
record IsShortType (type : RecordType) : Type 0 where
  name : length type.name ≤ 64
  few : length type.fields ≤ 1024
  fields : Each (IsShortField type.fields) type.fields

names_short : (all fields : List Field) → Each (IsShortField all) fields → AreShortFields fields
names_short all [] are = tt
names_short all (field ∷ fields) are = (are.0.name, names_short all fields are.1)

type_names_short : (types : List RecordType) → Each IsShortType types → AreShortTypes types
type_names_short [] are = tt
type_names_short (type ∷ types) are = (are.0.name, type_names_short types are.1)

short_type : (stated : Bool) (types : List RecordType) (type : RecordType) → AreShortTypes types → IsShortType type
    → length (described_type stated types type) ≤ 400000
short_type stated types type types_short is =
    let name = is.name in
    let few = is.few in
    let l0 = length-text type.name in
    let l1 = length-number 4 type.length in
    let l2 = length-number 2 (length type.fields) in
    let l3 = short_fields stated types type.fields type.fields types_short (names_short type.fields type.fields is.fields) is.fields in
    let whole = four (described_text type.name) (described_number 4 type.length) (described_number 2 (length type.fields))
    (described_fields stated types type.fields type.fields) in
    omega (arith, name, few, l0, l1, l2, l3, whole)

short_types : (stated : Bool) (all types : List RecordType) → AreShortTypes all → Each IsShortType types
    → length (described_types stated all types) ≤ 400000 * length types
short_types stated all [] all_short are = omega arith
short_types stated all (type ∷ types) all_short are =
    let first = short_type stated all type all_short are.0 in
    let rest = short_types stated all types all_short are.1 in
    let long = length-append (described_type stated all type) (described_types stated all types) in
    omega (arith, first, rest, long)

-- ---- a format

length-magic : (stated : Bool) → length (magic stated) ≡ 4
length-magic true = refl
length-magic false = refl

laid_field : (pointer : ℕ) (earlier : List RecordType) (room : ℕ) (fields : List Field) (k : ℕ) (field : Field)
    → IsLaidField pointer earlier room fields k field → IsShortField fields field
laid_field pointer earlier room fields k field laid = record { name = (length-name field.name laid.named).1; shape = laid.shape_allowed }

laid_type : (pointer : ℕ) (earlier : List RecordType) (type : RecordType) → IsLaidType pointer earlier type → IsShortType type
laid_type pointer earlier type laid = record {
  name = (length-name type.name laid.named).1;
  few = laid.fields_allowed.1;
  fields = each_by_number (IsShortField type.fields) type.fields
      (λ k field there. laid_field pointer earlier type.length type.fields k field (laid.each_field k field there));
}

pub short_description : (layout : Layout) → IsWellLaid layout → length (describe layout) < 2 ^ 32
short_description layout laid =
    let types = layout.types in
    let stated = states_default layout in
    let are = each_by_number IsShortType types (λ k type there. laid_type layout.pointer (take k types) type
    (laid.each_type k type there)) in
    let few = laid.types_allowed.1 in
    let l0 = length-number 1 (order_number layout.order) in
    let l1 = length-number 1 layout.pointer in
    let l2 = length-number 2 (length types) in
    let l3 = short_types stated types types (type_names_short types are) are in
    let whole = five (magic stated) (described_number 1 (order_number layout.order)) (described_number 1 layout.pointer)
    (described_number 2 (length types)) (described_types stated types types) in
    let four_bytes = length-magic stated in
    omega (arith, few, l0, l1, l2, l3, whole, four_bytes)
