-- The definitions computed on small formats and records, whose answers were worked out by hand.
use Rattle.std.proofs.Common.{◌≡◌, ℕ, pos, negsuc, refl, List, [], ◌∷◌, length, codes, Option, Some, None, Result, Ok, Err}
use Rattle.std.specs.Fmt.{digits}
use Rattle.evp_base.specs.declared.kind.Kind.TheVariants.{Int, Unsigned}
use Rattle.evp_base.specs.declared.order.Order.{Order}
use Rattle.evp_base.specs.declared.order.Order.TheVariants.{Little, Big}
use Rattle.evp_base.specs.declared.step.Step.TheVariants as step
use Rattle.evp_format.specs.declared.broken.Broken.{Broken}
use Rattle.evp_format.specs.declared.broken.Broken.TheVariants as fault
use Rattle.evp_format.specs.declared.field.Base.{Base}
use Rattle.evp_format.specs.declared.field.Base.TheVariants.{Number, Text, Nested}
use Rattle.evp_format.specs.declared.field.Field.{Field}
use Rattle.evp_format.specs.declared.field.Shape.{Shape}
use Rattle.evp_format.specs.declared.field.Shape.TheVariants.{One, Fixed, Counted}
use Rattle.evp_format.specs.declared.place.PlaceStep.TheVariants.{At, Nth}
use Rattle.evp_format.specs.declared.record_type.RecordType.{RecordType}
use Rattle.evp_format.specs.Clashing.{clash}
use Rattle.evp_format.specs.Converting.{Made, made, unfit, large, convert}
use Rattle.evp_format.specs.Datum.{Datum, num, null, text, list, rec, empty_list, element, empty_record, entry}
use Rattle.evp_format.specs.Describing.{describe}
use Rattle.evp_format.specs.Layout.{Layout}
use Rattle.evp_format.specs.Packing.{pack}
use Rattle.evp_format.specs.Path.{path_of}
use Rattle.evp_format.specs.ValueText.{value_text}
use Rattle.evp_format.specs.Viewing.{view}
use Rattle.evp_format.specs.Zero.{zero_of}

abbrev n_name : List ℕ
n_name = 110 ∷ []

abbrev a_name : List ℕ
a_name = 97 ∷ []

abbrev b_name : List ℕ
b_name = 98 ∷ []

abbrev s_name : List ℕ
s_name = 115 ∷ []

abbrev t_name : List ℕ
t_name = 116 ∷ []

abbrev x_name : List ℕ
x_name = 120 ∷ []

abbrev y_name : List ℕ
y_name = 121 ∷ []

abbrev z_name : List ℕ
z_name = 122 ∷ []

abbrev k_name : List ℕ
k_name = 107 ∷ []

abbrev p_name : List ℕ
p_name = 112 ∷ []

abbrev field_of : List ℕ → Base → Shape → ℕ → ℕ → Field
field_of name base shape size offset = record { name = name; base = base; shape = shape; size = size; offset = offset; fallback = pos 0 }

abbrev int_field : List ℕ → ℕ → ℕ → Field
int_field name size offset = field_of name (Number Int) One size offset

abbrev type_of : List ℕ → ℕ → List Field → RecordType
type_of name length fields = record { name = name; length = length; fields = fields }

abbrev layout_of : Order → ℕ → ℕ → List Field → Layout
layout_of order pointer length fields = record { order = order; pointer = pointer; types = type_of p_name length fields ∷ [] }

-- the record that the bytes have in one format, converted to another
abbrev converted : Layout → Layout → ℕ → Result Datum Broken → Option (Made Datum)
converted from to limit (Ok value) = Some (convert to value limit)
converted from to limit (Err broken) = None

abbrev conversion : Layout → Layout → ℕ → List ℕ → Option (Made Datum)
conversion from to limit bytes = converted from to limit (view from bytes)

abbrev one_entry : List ℕ → Datum → Datum
one_entry name value = rec (entry name value empty_record)

abbrev two_entries : List ℕ → Datum → List ℕ → Datum → Datum
two_entries name value name' value' = rec (entry name value (entry name' value' empty_record))

-- one number of four bytes
abbrev small : Layout
small = layout_of Little 4 4 (int_field x_name 4 0 ∷ [])

abbrev wide : Layout
wide = layout_of Big 8 8 (int_field x_name 8 0 ∷ [])

abbrev unsigned_wide : Layout
unsigned_wide = layout_of Big 8 8 (field_of x_name (Number Unsigned) One 8 0 ∷ [])

seven_widens : conversion small wide 4096 (7 ∷ 0 ∷ 0 ∷ 0 ∷ []) ≡ Some (made (one_entry x_name (num (pos 7))) 8)
seven_widens = refl

minus_one_is_not_unsigned : conversion small unsigned_wide 4096 (255 ∷ 255 ∷ 255 ∷ 255 ∷ []) ≡ Some (unfit (At 0 ∷ []))
minus_one_is_not_unsigned = refl

greatest_signed_fits : conversion unsigned_wide (layout_of Little 8 8 (int_field x_name 8 0 ∷ [])) 4096
    (127 ∷ 255 ∷ 255 ∷ 255 ∷ 255 ∷ 255 ∷ 255 ∷ 255 ∷ [])
    ≡ Some (made (one_entry x_name (num (pos 9223372036854775807))) 8)
greatest_signed_fits = refl

next_number_does_not_fit : conversion unsigned_wide (layout_of Little 8 8 (int_field x_name 8 0 ∷ [])) 4096
    (128 ∷ 0 ∷ 0 ∷ 0 ∷ 0 ∷ 0 ∷ 0 ∷ 0 ∷ [])
    ≡ Some (unfit (At 0 ∷ []))
next_number_does_not_fit = refl

-- fields are matched by name, and one without a partner is 0
names_match : conversion (layout_of Little 8 8 (int_field x_name 4 0 ∷ int_field z_name 4 4 ∷ []))
    (layout_of Little 4 8 (int_field y_name 4 0 ∷ int_field x_name 2 4 ∷ [])) 4096
    (7 ∷ 0 ∷ 0 ∷ 0 ∷ 9 ∷ 0 ∷ 0 ∷ 0 ∷ []) ≡ Some (made (two_entries y_name (num (pos 0)) x_name (num (pos 7))) 8)
names_match = refl

-- an array before its count
abbrev counted : Layout
counted = layout_of Little 4 8 (field_of a_name (Number Int) (Counted 1) 4 0 ∷ int_field n_name 4 4 ∷ [])

abbrev counted_wide : Layout
counted_wide = layout_of Big 4 8 (int_field n_name 4 0 ∷ field_of a_name (Number Int) (Counted 0) 8 4 ∷ [])

abbrev five_and_six : List ℕ
five_and_six = 8 ∷ 0 ∷ 0 ∷ 0 ∷ 2 ∷ 0 ∷ 0 ∷ 0 ∷ 5 ∷ 0 ∷ 0 ∷ 0 ∷ 6 ∷ 0 ∷ 0 ∷ 0 ∷ []

abbrev five_six : Datum
five_six = list (element (num (pos 5)) (element (num (pos 6)) empty_list))

counted_is_viewed : view counted five_and_six ≡ Ok (two_entries a_name five_six n_name (num (pos 2)))
counted_is_viewed = refl

counted_is_packed : pack counted (two_entries a_name five_six n_name (num (pos 2))) ≡ five_and_six
counted_is_packed = refl

counted_is_written : value_text (two_entries a_name five_six n_name (num (pos 2))) ≡ codes "{a=[5,6],n=2}"
unfolding digits
counted_is_written = refl

counted_widens : conversion counted counted_wide 4096 five_and_six ≡ Some (made (two_entries n_name (num (pos 2)) a_name five_six) 24)
counted_widens = refl

counted_wide_is_packed : pack counted_wide (two_entries n_name (num (pos 2)) a_name five_six)
    ≡ 0 ∷ 0 ∷ 0 ∷ 2 ∷ 0 ∷ 0 ∷ 0 ∷ 8 ∷ 0 ∷ 0 ∷ 0 ∷ 0 ∷ 0 ∷ 0 ∷ 0 ∷ 5 ∷ 0 ∷ 0 ∷ 0 ∷ 0 ∷ 0 ∷ 0 ∷ 0 ∷ 6 ∷ []
counted_wide_is_packed = refl

another_length_does_not_fit : conversion counted (layout_of Little 4 12 (field_of a_name (Number Int) (Fixed 3) 4 0 ∷ [])) 4096 five_and_six
    ≡ Some (unfit (At 0 ∷ []))
another_length_does_not_fit = refl

-- a list without a partner is as long as the receiver's count says
abbrev count_alone : Layout
count_alone = layout_of Little 8 8 (int_field n_name 8 0 ∷ [])

abbrev count_and_list : Layout
count_and_list = layout_of Little 4 16 (int_field n_name 8 0 ∷ field_of b_name (Number Int) (Counted 0) 4 8 ∷ [])

abbrev three_zeros : Datum
three_zeros = list (element (num (pos 0)) (element (num (pos 0)) (element (num (pos 0)) empty_list)))

zeros_are_counted : conversion count_alone count_and_list 28 (3 ∷ 0 ∷ 0 ∷ 0 ∷ 0 ∷ 0 ∷ 0 ∷ 0 ∷ [])
    ≡ Some (made (two_entries n_name (num (pos 3)) b_name three_zeros) 28)
zeros_are_counted = refl

zeros_pass_the_limit : conversion count_alone count_and_list 27 (3 ∷ 0 ∷ 0 ∷ 0 ∷ 0 ∷ 0 ∷ 0 ∷ 0 ∷ []) ≡ Some (large (At 1 ∷ []))
zeros_pass_the_limit = refl

negative_count_does_not_fit : conversion count_alone count_and_list 4096 (255 ∷ 255 ∷ 255 ∷ 255 ∷ 255 ∷ 255 ∷ 255 ∷ 255 ∷ [])
    ≡ Some (unfit (At 1 ∷ []))
negative_count_does_not_fit = refl

great_count_is_large : conversion count_alone count_and_list 4096 (0 ∷ 0 ∷ 0 ∷ 0 ∷ 0 ∷ 1 ∷ 0 ∷ 0 ∷ []) ≡ Some (large (At 1 ∷ []))
great_count_is_large = refl

-- a null string and an empty one are different
abbrev string_64 : Layout
string_64 = layout_of Little 8 8 (field_of s_name Text One 8 0 ∷ [])

abbrev string_32 : Layout
string_32 = layout_of Little 4 4 (field_of s_name Text One 4 0 ∷ [])

null_stays_null : conversion string_64 string_32 4096 (0 ∷ 0 ∷ 0 ∷ 0 ∷ 0 ∷ 0 ∷ 0 ∷ 0 ∷ []) ≡ Some (made (one_entry s_name null) 4)
null_stays_null = refl

empty_stays_empty : conversion string_64 string_32 4096 (8 ∷ 0 ∷ 0 ∷ 0 ∷ 0 ∷ 0 ∷ 0 ∷ 0 ∷ 0 ∷ [])
    ≡ Some (made (one_entry s_name (text [])) 9)
empty_stays_empty = refl

text_is_kept : conversion string_64 string_32 4096 (8 ∷ 0 ∷ 0 ∷ 0 ∷ 0 ∷ 0 ∷ 0 ∷ 0 ∷ 97 ∷ 98 ∷ 0 ∷ [])
    ≡ Some (made (one_entry s_name (text (97 ∷ 98 ∷ []))) 11)
text_is_kept = refl

zero_of_a_string : zero_of string_32 ≡ one_entry s_name null
zero_of_a_string = refl

-- an array inside the record has all its elements, a counted one as many as its count's default says
zero_of_arrays : zero_of (layout_of Little 4 16
    (field_of a_name (Number Int) (Fixed 3) 2 0 ∷ field_of b_name (Number Int) (Counted 2) 4 8
    ∷ record (int_field n_name 4 12) { fallback = pos 2 } ∷ []))
    ≡ rec (entry a_name (list (element (num (pos 0)) (element (num (pos 0)) (element (num (pos 0)) empty_list))))
    (entry b_name (list (element (num (pos 0)) (element (num (pos 0)) empty_list)))
    (entry n_name (num (pos 2)) empty_record)))
zero_of_arrays = refl

-- an array of records: the second element's number is too great
abbrev records_from : Layout
records_from = record {
  order = Little;
  pointer = 8;
  types =
      type_of (101 ∷ []) 16 (int_field k_name 8 0 ∷ field_of s_name Text One 8 8 ∷ [])
      ∷ type_of (114 ∷ []) 32 (field_of p_name (Nested 0) (Fixed 2) 16 0 ∷ []) ∷ [];
}

abbrev records_to : Layout
records_to = record {
  order = Little;
  pointer = 4;
  types =
      type_of (101 ∷ []) 8 (int_field k_name 1 0 ∷ field_of s_name Text One 4 4 ∷ [])
      ∷ type_of (114 ∷ []) 16 (field_of p_name (Nested 0) (Fixed 2) 8 0 ∷ []) ∷ [];
}

second_record_does_not_fit : conversion records_from records_to 4096
    (5 ∷ 0 ∷ 0 ∷ 0 ∷ 0 ∷ 0 ∷ 0 ∷ 0 ∷ 0 ∷ 0 ∷ 0 ∷ 0 ∷ 0 ∷ 0 ∷ 0 ∷ 0 ∷ 44 ∷ 1 ∷ 0 ∷ 0 ∷ 0 ∷ 0 ∷ 0 ∷ 0 ∷ 32 ∷ 0 ∷ 0 ∷ 0 ∷ 0 ∷ 0 ∷ 0 ∷ 0 ∷ 97
    ∷ 0 ∷ [])
    ≡ Some (unfit (At 0 ∷ Nth 1 ∷ At 0 ∷ []))
second_record_does_not_fit = refl

second_record_has_a_path : path_of records_to (At 0 ∷ Nth 1 ∷ At 0 ∷ []) ≡ step.Field p_name ∷ step.Index 1 ∷ step.Field k_name ∷ []
second_record_has_a_path = refl

-- a string and a number of one name clash
string_and_number_clash : clash (layout_of Little 4 4 (field_of a_name Text One 4 0 ∷ []))
    (layout_of Little 4 4 (int_field a_name 4 0 ∷ [])) ≡ Some (step.Field a_name ∷ [])
string_and_number_clash = refl

records_do_not_clash : clash records_from records_to ≡ None
records_do_not_clash = refl

-- faults of a record's bytes
two_blocks_out_of_order : view (layout_of Little 4 8 (field_of s_name Text One 4 0 ∷ field_of t_name Text One 4 4 ∷ []))
    (10 ∷ 0 ∷ 0 ∷ 0 ∷ 8 ∷ 0 ∷ 0 ∷ 0 ∷ 97 ∷ 0 ∷ 98 ∷ 0 ∷ []) ≡ Err (fault.BlockPlace (At 1 ∷ []))
two_blocks_out_of_order = refl

short_record : view small (7 ∷ 0 ∷ 0 ∷ []) ≡ Err fault.ShortRecord
short_record = refl

no_end_of_a_string : view string_32 (4 ∷ 0 ∷ 0 ∷ 0 ∷ 97 ∷ []) ≡ Err (fault.NoEnd (At 0 ∷ []))
no_end_of_a_string = refl

list_past_the_bytes : view counted (8 ∷ 0 ∷ 0 ∷ 0 ∷ 5 ∷ 0 ∷ 0 ∷ 0 ∷ 5 ∷ 0 ∷ 0 ∷ 0 ∷ 6 ∷ 0 ∷ 0 ∷ 0 ∷ 7 ∷ 0 ∷ 0 ∷ 0 ∷ 8 ∷ 0 ∷ 0 ∷ 0 ∷ [])
    ≡ Err (fault.BlockPlace (At 0 ∷ []))
list_past_the_bytes = refl

negative_count : view counted (8 ∷ 0 ∷ 0 ∷ 0 ∷ 255 ∷ 255 ∷ 255 ∷ 255 ∷ 5 ∷ 0 ∷ 0 ∷ 0 ∷ []) ≡ Err (fault.NegativeCount (At 0 ∷ []))
negative_count = refl

null_list : view counted (0 ∷ 0 ∷ 0 ∷ 0 ∷ 1 ∷ 0 ∷ 0 ∷ 0 ∷ 5 ∷ 0 ∷ 0 ∷ 0 ∷ []) ≡ Err (fault.NullList (At 0 ∷ []))
null_list = refl

-- descriptions
small_is_described : describe small
    ≡ 78 ∷ 68 ∷ 70 ∷ 49 ∷ 0 ∷ 4 ∷ 0 ∷ 1 ∷ 1 ∷ 112 ∷ 0 ∷ 0 ∷ 0 ∷ 4 ∷ 0 ∷ 1 ∷ 1 ∷ 120 ∷ 7 ∷ 105 ∷ 110 ∷ 116 ∷ 101 ∷ 103 ∷ 101 ∷ 114 ∷ 0 ∷ 0
    ∷ 0 ∷ 4 ∷ 0 ∷ 0 ∷ 0 ∷ 0 ∷ []
small_is_described = refl

-- a stated default
abbrev with_default : Layout
with_default = layout_of Big 8 16 (record { name = y_name; base = Number Int; shape = One; size = 4; offset = 0; fallback = negsuc 0 }
    ∷ int_field x_name 8 8 ∷ [])

description_with_default : length (describe with_default) ≡ 84
description_with_default = refl

default_is_taken : conversion small with_default 4096 (7 ∷ 0 ∷ 0 ∷ 0 ∷ [])
    ≡ Some (made (two_entries y_name (num (negsuc 0)) x_name (num (pos 7))) 16)
default_is_taken = refl

default_is_written : value_text (two_entries y_name (num (negsuc 0)) x_name (num (pos 7))) ≡ codes "{y=-1,x=7}"
unfolding digits
default_is_written = refl

default_is_packed : pack with_default (two_entries y_name (num (negsuc 0)) x_name (num (pos 7)))
    ≡ 255 ∷ 255 ∷ 255 ∷ 255 ∷ 0 ∷ 0 ∷ 0 ∷ 0 ∷ 0 ∷ 0 ∷ 0 ∷ 0 ∷ 0 ∷ 0 ∷ 0 ∷ 7 ∷ []
default_is_packed = refl

-- the default of a field inside records that have no partner
abbrev records_of_defaults : Layout
records_of_defaults = record {
  order = Little;
  pointer = 4;
  types =
      type_of (101 ∷ []) 4 (record { name = k_name; base = Number Int; shape = One; size = 4; offset = 0; fallback = pos 5 } ∷ [])
      ∷ type_of (114 ∷ []) 8 (field_of p_name (Nested 0) (Fixed 2) 4 0 ∷ []) ∷ [];
}

abbrev two_fives : Datum
two_fives = one_entry p_name (list (element (one_entry k_name (num (pos 5))) (element (one_entry k_name (num (pos 5))) empty_list)))

defaults_inside_records : conversion small records_of_defaults 4096 (7 ∷ 0 ∷ 0 ∷ 0 ∷ []) ≡ Some (made two_fives 8)
defaults_inside_records = refl

defaults_are_written : value_text two_fives ≡ codes "{p=[{k=5},{k=5}]}"
unfolding digits
defaults_are_written = refl
