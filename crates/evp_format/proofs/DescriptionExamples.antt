-- The definition of reading computed on descriptions written by hand.
use Rattle.std.proofs.Common.{◌≡◌, ℕ, false, pos, refl, List, [], ◌∷◌, ◌++◌, codes, Some, None, Ok, Err, take, drop, replicate}
use Rattle.std.specs.Fmt.{digits}
use Rattle.evp_base.specs.declared.kind.Kind.TheVariants.{Int}
use Rattle.evp_base.specs.declared.order.Order.TheVariants.{Little}
use Rattle.evp_format.specs.declared.field.Base.TheVariants.{Number}
use Rattle.evp_format.specs.declared.field.Shape.TheVariants.{One}
use Rattle.evp_format.specs.declared.layout_fault.LayoutFault.TheVariants as fault
use Rattle.evp_format.specs.declared.layout_fault.Which.TheVariants as which
use Rattle.evp_format.specs.declared.record_type.RecordType.{RecordType}
use Rattle.evp_format.specs.Describing.{describe}
use Rattle.evp_format.specs.FaultText.{layout_fault_text}
use Rattle.evp_format.specs.Layout.{Layout}
use Rattle.evp_format.specs.Drafts.{shape_in, counted_fields, without_count_default, within_nesting, without_overlap}
use Rattle.evp_format.specs.Parts.{new_type_name, new_field_count, new_field_name, allowed_size, allowed_default, ended_type}
use Rattle.evp_format.specs.TypeText.{word_of, fixed_of, inside_of, shape_of, base_of, type_text_of}
use Rattle.evp_format.specs.Reading.{number_at, signed_at, text_behind, text_at, field_name_at, field_type_at, field_size_at}
use Rattle.evp_format.specs.Reading.{field_offset_at, default_at, field_at, fields_at, type_name_at, type_length_at, field_count_at}
use Rattle.evp_format.specs.Reading.{whole_type, type_at, types_at, magic_at, order_at, pointer_at, type_count_at, with_default, layout_at}
use Rattle.evp_format.specs.Reading.{layout_of, layout_fault}

-- what stands in front of the type text of the one field
abbrev head : ℕ → List ℕ
head fields = codes "NDF1" ++ 0 ∷ 4 ∷ 0 ∷ 1 ∷ 1 ∷ 112 ∷ 0 ∷ 0 ∷ 0 ∷ 4 ∷ 0 ∷ fields ∷ 1 ∷ 120 ∷ []

-- little endian, pointers of 4 bytes, one type `p` of 4 bytes with one field `x` of this type text, of 4 bytes at 0
abbrev described_with : List ℕ → List ℕ
described_with text = head 1 ++ text ++ 0 ∷ 0 ∷ 0 ∷ 4 ∷ 0 ∷ 0 ∷ 0 ∷ 0 ∷ []

abbrev small : List ℕ
small = described_with (7 ∷ codes "integer")

abbrev small_layout : Layout
small_layout = record {
  order = Little;
  pointer = 4;
  types = record {
    name = 112 ∷ [];
    length = 4;
    fields =
        record { name = 120 ∷ []; base = Number Int; shape = One; size = 4; offset = 0; fallback = pos 0 } ∷ [];
  } ∷ [];
}

small_is_described : describe small_layout ≡ small
small_is_described = refl

abbrev float_text : List ℕ
float_text = described_with (5 ∷ codes "float")

abbrev count_text : List ℕ
count_text = described_with (10 ∷ codes "integer[m]")

-- a second field `y` of two bytes at offset 2
abbrev two_overlap : List ℕ
two_overlap = head 2 ++ 7 ∷ codes "integer" ++ 0 ∷ 0 ∷ 0 ∷ 4 ∷ 0 ∷ 0 ∷ 0 ∷ 0 ∷ 1 ∷ 121 ∷ 7 ∷ codes "integer" ++ 0 ∷ 0 ∷ 0 ∷ 2 ∷ 0 ∷ 0 ∷ 0
    ∷ 2 ∷ []

-- the small description as `NDF2`, with this default
abbrev with_default_bytes : List ℕ → List ℕ
with_default_bytes default = codes "NDF2" ++ drop 4 small ++ default

abbrev twelve_zeros : List ℕ
twelve_zeros = replicate 12 0

small_is_read : layout_of small ≡ Ok small_layout
unfolding digits word_of fixed_of inside_of shape_of base_of type_text_of shape_in counted_fields without_count_default within_nesting
    without_overlap number_at signed_at text_behind text_at field_name_at field_type_at field_size_at field_offset_at default_at field_at
    fields_at type_name_at type_length_at field_count_at whole_type type_at types_at magic_at order_at pointer_at type_count_at with_default
    layout_at layout_of new_type_name new_field_count new_field_name allowed_size allowed_default ended_type
small_is_read = refl

float_is_refused : layout_fault float_text ≡ Some (fault.Float 0 0)
unfolding digits word_of fixed_of inside_of shape_of base_of type_text_of shape_in counted_fields without_count_default within_nesting
    without_overlap number_at signed_at text_behind text_at field_name_at field_type_at field_size_at field_offset_at default_at field_at
    fields_at type_name_at type_length_at field_count_at whole_type type_at types_at magic_at order_at pointer_at type_count_at with_default
    layout_at layout_of new_type_name new_field_count new_field_name allowed_size allowed_default ended_type
float_is_refused = refl

overlap_is_refused : layout_fault two_overlap ≡ Some (fault.Overlap 0 0 1)
unfolding digits word_of fixed_of inside_of shape_of base_of type_text_of shape_in counted_fields without_count_default within_nesting
    without_overlap number_at signed_at text_behind text_at field_name_at field_type_at field_size_at field_offset_at default_at field_at
    fields_at type_name_at type_length_at field_count_at whole_type type_at types_at magic_at order_at pointer_at type_count_at with_default
    layout_at layout_of new_type_name new_field_count new_field_name allowed_size allowed_default ended_type
overlap_is_refused = refl

count_is_refused : layout_fault count_text ≡ Some (fault.CountField 0 0)
unfolding digits word_of fixed_of inside_of shape_of base_of type_text_of shape_in counted_fields without_count_default within_nesting
    without_overlap number_at signed_at text_behind text_at field_name_at field_type_at field_size_at field_offset_at default_at field_at
    fields_at type_name_at type_length_at field_count_at whole_type type_at types_at magic_at order_at pointer_at type_count_at with_default
    layout_at layout_of new_type_name new_field_count new_field_name allowed_size allowed_default ended_type
count_is_refused = refl

byte_more_is_refused : layout_fault (small ++ 0 ∷ []) ≡ Some (fault.Trailing 34)
unfolding digits word_of fixed_of inside_of shape_of base_of type_text_of shape_in counted_fields without_count_default within_nesting
    without_overlap number_at signed_at text_behind text_at field_name_at field_type_at field_size_at field_offset_at default_at field_at
    fields_at type_name_at type_length_at field_count_at whole_type type_at types_at magic_at order_at pointer_at type_count_at with_default
    layout_at layout_of new_type_name new_field_count new_field_name allowed_size allowed_default ended_type
byte_more_is_refused = refl

byte_fewer_is_refused : layout_fault (take 33 small) ≡ Some (fault.Short 30)
unfolding digits word_of fixed_of inside_of shape_of base_of type_text_of shape_in counted_fields without_count_default within_nesting
    without_overlap number_at signed_at text_behind text_at field_name_at field_type_at field_size_at field_offset_at default_at field_at
    fields_at type_name_at type_length_at field_count_at whole_type type_at types_at magic_at order_at pointer_at type_count_at with_default
    layout_at layout_of new_type_name new_field_count new_field_name allowed_size allowed_default ended_type
byte_fewer_is_refused = refl

zero_default_is_refused : layout_fault (with_default_bytes (replicate 16 0)) ≡ Some fault.Plain
unfolding digits word_of fixed_of inside_of shape_of base_of type_text_of shape_in counted_fields without_count_default within_nesting
    without_overlap number_at signed_at text_behind text_at field_name_at field_type_at field_size_at field_offset_at default_at field_at
    fields_at type_name_at type_length_at field_count_at whole_type type_at types_at magic_at order_at pointer_at type_count_at with_default
    layout_at layout_of new_type_name new_field_count new_field_name allowed_size allowed_default ended_type
zero_default_is_refused = refl

great_default_is_refused : layout_fault (with_default_bytes (twelve_zeros ++ 128 ∷ 0 ∷ 0 ∷ 0 ∷ [])) ≡ Some (fault.Default 0 0)
unfolding digits word_of fixed_of inside_of shape_of base_of type_text_of shape_in counted_fields without_count_default within_nesting
    without_overlap number_at signed_at text_behind text_at field_name_at field_type_at field_size_at field_offset_at default_at field_at
    fields_at type_name_at type_length_at field_count_at whole_type type_at types_at magic_at order_at pointer_at type_count_at with_default
    layout_at layout_of new_type_name new_field_count new_field_name allowed_size allowed_default ended_type
great_default_is_refused = refl

greatest_default_is_read : layout_fault (with_default_bytes (twelve_zeros ++ 127 ∷ 255 ∷ 255 ∷ 255 ∷ [])) ≡ None
unfolding digits word_of fixed_of inside_of shape_of base_of type_text_of shape_in counted_fields without_count_default within_nesting
    without_overlap number_at signed_at text_behind text_at field_name_at field_type_at field_size_at field_offset_at default_at field_at
    fields_at type_name_at type_length_at field_count_at whole_type type_at types_at magic_at order_at pointer_at type_count_at with_default
    layout_at layout_of new_type_name new_field_count new_field_name allowed_size allowed_default ended_type
greatest_default_is_read = refl

-- ---- all types' fields

-- a type of 1,024 fields
abbrev wide : List ℕ → RecordType
wide name = record {
  name = name;
  length = 4;
  fields = replicate 1024
      (record { name = name; base = Number Int; shape = One; size = 4; offset = 0; fallback = pos 0 });
}

abbrev four_wide : List RecordType
four_wide = wide (codes "a") ∷ wide (codes "b") ∷ wide (codes "c") ∷ wide (codes "d") ∷ []

-- a type `p` of 4 bytes with one field, behind four with 4,096: the field isn't read
one_field_more : type_at false 4 four_wide (1 ∷ 112 ∷ 0 ∷ 0 ∷ 0 ∷ 4 ∷ 0 ∷ 1 ∷ []) 0 ≡ Err (fault.Limit which.AllFields 4097)
unfolding number_at text_behind text_at type_name_at type_length_at field_count_at type_at new_type_name new_field_count
one_field_more = refl

-- ---- texts

texts : List ℕ
texts =
    layout_fault_text (fault.Short 30) ++ 59 ∷ layout_fault_text (fault.BadName 1 None) ++ 59 ∷ layout_fault_text (fault.BadName 1 (Some 2))
    ++ 59 ∷ layout_fault_text (fault.Overlap 1 2 3)
    ++ 59 ∷ layout_fault_text (fault.Limit which.AllFields 4097) ++ 59 ∷ layout_fault_text (fault.CountDefault 0 12) ++ 59
    ∷ layout_fault_text (fault.TypeTwice 63) ++ 59 ∷ layout_fault_text fault.Pointer

texts_are : texts
    ≡ codes "short at 30;bad name, type 1;bad name, type 1 field 2;overlap, type 1 fields 2 and 3;limit all fields: 4097"
    ++ codes ";count default, type 0 field 12;type twice, type 63;pointer size"
unfolding texts digits
texts_are = refl
