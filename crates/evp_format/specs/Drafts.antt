-- A record type whose fields are stated one by one: what each may be, and what is tested where the
-- type ends.
use Rattle.std.specs.Prelude.{ℕ, ◌+◌, ℤ, pos, Bool, true, false, not, ◌&&◌, ◌||◌, nat_eq, nat_le}
use Rattle.std.specs.Prelude.{if◌then◌else◌, List, [], ◌∷◌, Option, Some, None, Result, Ok, Err}
use Rattle.std.specs.Prelude.{slice_get}
use Rattle.std.specs.Ordering.{int_eq}
use Rattle.std.specs.List.{list_any, position_from}
use Rattle.std.specs.Option.{ok_or}
use Rattle.evp_base.specs.declared.kind.Kind.TheVariants.{Int, Unsigned}
use Rattle.evp_base.specs.Numbers.{is_size_of, is_in_range}
use Rattle.evp_format.specs.declared.draft.DraftField.{DraftField}
use Rattle.evp_format.specs.declared.draft.DraftShape.{DraftShape}
use Rattle.evp_format.specs.declared.draft.DraftShape.TheVariants as draft
use Rattle.evp_format.specs.declared.field.Base.{Base}
use Rattle.evp_format.specs.declared.field.Base.TheVariants.{Number, Text, Nested}
use Rattle.evp_format.specs.declared.field.Field.{Field}
use Rattle.evp_format.specs.declared.field.Shape.{Shape}
use Rattle.evp_format.specs.declared.field.Shape.TheVariants.{One, Fixed, Counted}
use Rattle.evp_format.specs.declared.layout_fault.LayoutFault.{LayoutFault}
use Rattle.evp_format.specs.declared.layout_fault.LayoutFault.TheVariants.{CountField, CountDefault}
use Rattle.evp_format.specs.declared.layout_fault.LayoutFault.TheVariants.{Overlap, Limit}
use Rattle.evp_format.specs.declared.layout_fault.Which.TheVariants.{Nesting}
use Rattle.evp_format.specs.declared.record_type.RecordType.{RecordType}
use Rattle.evp_format.specs.Bytes.{bytes_equal}
use Rattle.evp_format.specs.Steps.{◌>>=◌, refused_by}
use Rattle.evp_format.specs.Tree.{trees, resolved}
use Rattle.evp_format.specs.WellLaid.{shape_extent, extent, depth}

-- an earlier field has this name
abbrev pub has_field : List DraftField → List ℕ → Bool
has_field fields name = list_any (λ (field : DraftField). bytes_equal field.name name) fields

-- an earlier type has this name
abbrev pub has_type : List RecordType → List ℕ → Bool
has_type types name = list_any (λ (type : RecordType). bytes_equal type.name name) types

-- the length of the type of this number
abbrev pub nested_length : List RecordType → ℕ → ℕ
nested_length types k = elim (slice_get types k) [ None ↦ 0 | Some type ↦ type.length ]

-- a size that a base may have: a number's by its kind, the pointer's for a string, the type's
-- length for a record
abbrev pub is_base_size : ℕ → List RecordType → Base → ℕ → Bool
is_base_size pointer earlier (Number kind) size = is_size_of kind size
is_base_size pointer earlier Text size = nat_eq size pointer
is_base_size pointer earlier (Nested k) size = nat_eq size (nested_length earlier k)

-- the bytes that a stated field takes inside its record
abbrev pub draft_extent : ℕ → DraftShape → ℕ → ℕ
draft_extent pointer draft.One size = shape_extent pointer One size
draft_extent pointer (draft.Fixed n) size = shape_extent pointer (Fixed n) size
draft_extent pointer (draft.Counted name) size = pointer

abbrev pub draft_of : List ℕ → Base × DraftShape → ℕ → ℕ → ℤ → DraftField
draft_of name said size offset fallback = record {
  name = name;
  base = said.0;
  shape = said.1;
  size = size;
  offset = offset;
  fallback = fallback;
}

-- a number in the range of a single number field
abbrev pub is_single_number : Base → DraftShape → ℕ → ℤ → Bool
is_single_number (Number kind) draft.One size n = is_in_range kind size n
is_single_number (Number kind) (draft.Fixed count) size n = false
is_single_number (Number kind) (draft.Counted name) size n = false
is_single_number Text shape size n = false
is_single_number (Nested k) shape size n = false

-- a default that a field may have, unless it is a count
abbrev pub may_default : Base → DraftShape → ℕ → ℤ → Bool
may_default base shape size n = int_eq n (pos 0) || is_single_number base shape size n

-- a single `integer` or `unsigned integer`
abbrev pub may_count : Base → DraftShape → Bool
may_count (Number Int) draft.One = true
may_count (Number Unsigned) draft.One = true
may_count base shape = false

-- this name, and may be a count
abbrev pub is_count_named : DraftField → List ℕ → Bool
is_count_named field name = bytes_equal field.name name && may_count field.base field.shape

-- the number of the count field of this name
abbrev pub count_named : List DraftField → List ℕ → Option ℕ
count_named fields name = position_from (λ (field : DraftField). is_count_named field name) 0 fields

-- an array with this count
abbrev pub counted_by : Option ℕ → Option Shape
counted_by None = None
counted_by (Some k) = Some (Counted k)

-- the shape, with the count field's number in place of its name
unfoldable pub shape_in : List DraftField → DraftShape → Option Shape
shape_in fields draft.One = Some One
shape_in fields (draft.Fixed n) = Some (Fixed n)
shape_in fields (draft.Counted name) = counted_by (count_named fields name)

abbrev pub field_with : DraftField → Shape → Field
field_with field shape = record {
  name = field.name;
  base = field.base;
  shape = shape;
  size = field.size;
  offset = field.offset;
  fallback = field.fallback;
}

-- these fields from number k on, of a type whose fields are `all`, or the first array without a
-- count field
unfoldable pub counted_fields : ℕ → ℕ → List DraftField → List DraftField
    → Result (List Field) LayoutFault
counted_fields type k all [] = Ok []
counted_fields type k all (field ∷ rest) = do
  shape ← ok_or (shape_in all field.shape) (CountField type k)
  others ← counted_fields type (k + 1) all rest
  Ok (field_with field shape ∷ others)

-- the array's count is field k
abbrev pub is_counted_by : Shape → ℕ → Bool
is_counted_by One k = false
is_counted_by (Fixed n) k = false
is_counted_by (Counted c) k = nat_eq c k

-- some array's count is field k
abbrev pub is_count : List Field → ℕ → Bool
is_count fields k = list_any (λ (field : Field). is_counted_by field.shape k) fields

-- field k is a count, and its default isn't 0
abbrev pub is_defaulted_count : List Field → ℕ → Field → Bool
is_defaulted_count all k field = not (int_eq field.fallback (pos 0)) && is_count all k

-- the first of these fields, from number k on, that is a count and has a default other than 0
abbrev pub count_with_default : List Field → ℕ → List Field → Option ℕ
count_with_default all k [] = None
count_with_default all k (field ∷ rest) =
    if is_defaulted_count all k field then Some k else count_with_default all (k + 1) rest

-- the bytes of the two fields are apart
abbrev pub are_apart : ℕ → Field → Field → Bool
are_apart pointer field other = nat_le (field.offset + extent pointer field) other.offset
    || nat_le (other.offset + extent pointer other) field.offset

-- the first of these fields, from number k on, that has bytes in common with a field
abbrev pub overlap_with : ℕ → Field → ℕ → List Field → Option ℕ
overlap_with pointer field k [] = None
overlap_with pointer field k (other ∷ rest) =
    if are_apart pointer field other then overlap_with pointer field (k + 1) rest else Some k

-- a field with another, or else a later pair
abbrev pub first_pair : ℕ → Option ℕ → Option (ℕ × ℕ) → Option (ℕ × ℕ)
first_pair k None later = later
first_pair k (Some other) later = Some (k, other)

-- the first pair of these fields, from number k on, that have bytes in common: by the first field,
-- and then by the second
abbrev pub first_overlap : ℕ → ℕ → List Field → Option (ℕ × ℕ)
first_overlap pointer k [] = None
first_overlap pointer k (field ∷ rest) =
    first_pair k (overlap_with pointer field (k + 1) rest) (first_overlap pointer (k + 1) rest)

abbrev pub type_of : List ℕ → ℕ → List Field → RecordType
type_of name length fields = record { name = name; length = length; fields = fields }

-- how deep a type nests, behind these types
abbrev pub depth_behind : List RecordType → RecordType → ℕ
depth_behind earlier type = depth (resolved (trees earlier) type)

-- no count states a default
unfoldable pub without_count_default : ℕ → RecordType → Result RecordType LayoutFault
without_count_default number type =
    refused_by (count_with_default type.fields 0 type.fields) (λ k. CountDefault number k) type

-- the type nests no deeper than 16
unfoldable pub within_nesting : List RecordType → RecordType → Result RecordType LayoutFault
within_nesting earlier type =
    if nat_le (depth_behind earlier type) 16 then Ok type
    else Err (Limit Nesting (depth_behind earlier type))

-- no two fields have bytes in common
unfoldable pub without_overlap : ℕ → ℕ → RecordType → Result RecordType LayoutFault
without_overlap pointer number type =
    refused_by (first_overlap pointer 0 type.fields) (λ pair. Overlap number pair.0 pair.1) type
