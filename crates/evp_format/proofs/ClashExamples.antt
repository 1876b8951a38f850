-- Clashes of two formats.
-- The answers were worked out by hand, and found again by an implementation that shares no code with this one.
use Rattle.std.proofs.Common.{◌≡◌, refl, [], ◌∷◌, Some, None}
use Rattle.evp_base.specs.declared.order.Order.TheVariants.{Little, Big}
use Rattle.evp_format.specs.Clashing.{clash}
use Rattle.evp_format.specs.Layout.{Layout, layout_with}
use Rattle.evp_format.proofs.Worked.{integer, char, boolean, enumeration, string, nested, array, counted, type_of, name}

abbrev record_then_number : Layout
record_then_number =
    layout_with Little 4 (type_of "e" 8 (integer "k" 4 0 ∷ string "s" 4 4 ∷ [])
    ∷ type_of "r" 16 (array 1 (nested "p" 0 8 0) ∷ integer "a" 4 8 ∷ []) ∷ [])

abbrev text_then_one_record : Layout
text_then_one_record =
    layout_with Little 4 (type_of "e" 8 (integer "s" 4 0 ∷ boolean "k" 1 4 ∷ []) ∷ type_of "r" 16 (string "a" 4 8
    ∷ array 1 (nested "p" 0 8 0) ∷ []) ∷ [])

-- a is listed first
a_is_listed_first : clash record_then_number text_then_one_record ≡ Some (name "a" ∷ [])
a_is_listed_first = refl

abbrev counted_records_then_text : Layout
counted_records_then_text =
    layout_with Little 4 (type_of "e" 8 (integer "s" 4 0 ∷ boolean "k" 1 4 ∷ [])
    ∷ type_of "r" 16 (counted 2 (nested "p" 0 8 0) ∷ string "a" 4 8 ∷ integer "n" 4 12 ∷ []) ∷ [])

-- p is listed first: into it at once, by names alone; static and counted are one class
into_nested_types_at_once : clash record_then_number counted_records_then_text ≡ Some (name "p" ∷ name "s" ∷ [])
into_nested_types_at_once = refl

-- the other way round: as listed there, k does not clash with a boolean
receivers_order_inside : clash text_then_one_record record_then_number ≡ Some (name "p" ∷ name "s" ∷ [])
receivers_order_inside = refl

abbrev single_record : Layout
single_record =
    layout_with Little 4 (type_of "e" 4 (integer "k" 4 0 ∷ []) ∷ type_of "r" 4 (nested "p" 0 4 0 ∷ []) ∷ [])

abbrev one_record_in_array : Layout
one_record_in_array =
    layout_with Little 4 (type_of "e" 4 (integer "k" 4 0 ∷ []) ∷ type_of "r" 4 (array 1 (nested "p" 0 4 0) ∷ []) ∷ [])

-- single record against array of records
record_and_array_of_records : clash single_record one_record_in_array ≡ Some (name "p" ∷ [])
record_and_array_of_records = refl

abbrev one_string : Layout
one_string =
    layout_with Little 4 (type_of "p" 4 (string "s" 4 0 ∷ []) ∷ [])

abbrev one_string_in_array : Layout
one_string_in_array =
    layout_with Little 4 (type_of "p" 4 (array 1 (string "s" 4 0) ∷ []) ∷ [])

-- text against array of texts
text_and_array_of_texts : clash one_string one_string_in_array ≡ Some (name "s" ∷ [])
text_and_array_of_texts = refl

abbrev one_number_in_array : Layout
one_number_in_array =
    layout_with Little 4 (type_of "p" 4 (array 1 (integer "s" 4 0) ∷ []) ∷ [])

-- array of numbers against array of texts
numbers_and_texts_in_arrays : clash one_number_in_array one_string_in_array ≡ Some (name "s" ∷ [])
numbers_and_texts_in_arrays = refl

abbrev four_chars : Layout
four_chars =
    layout_with Little 4 (type_of "p" 4 (array 4 (char "s" 1 0) ∷ []) ∷ [])

-- array of chars against text
chars_and_text : clash four_chars one_string ≡ Some (name "s" ∷ [])
chars_and_text = refl

abbrev one_char : Layout
one_char =
    layout_with Little 4 (type_of "p" 4 (char "s" 1 0 ∷ []) ∷ [])

abbrev one_char_in_array : Layout
one_char_in_array =
    layout_with Little 4 (type_of "p" 4 (array 1 (char "s" 1 0) ∷ []) ∷ [])

-- number against array of one number
number_and_array_of_one : clash one_char one_char_in_array ≡ Some (name "s" ∷ [])
number_and_array_of_one = refl

abbrev one_enumeration : Layout
one_enumeration =
    layout_with Little 4 (type_of "p" 4 (enumeration "s" 4 0 ∷ []) ∷ [])

-- all kinds of numbers are one class
numbers_of_all_kinds : clash one_char one_enumeration ≡ None
numbers_of_all_kinds = refl

abbrev nested_twice : Layout
nested_twice =
    layout_with Little 4 (type_of "a" 4 (integer "k" 4 0 ∷ []) ∷ type_of "b" 4 (nested "q" 0 4 0 ∷ [])
    ∷ type_of "c" 4 (nested "p" 1 4 0 ∷ []) ∷ [])

abbrev number_p : Layout
number_p =
    layout_with Little 4 (type_of "p" 4 (integer "p" 4 0 ∷ []) ∷ [])

-- record against number
record_and_number : clash nested_twice number_p ≡ Some (name "p" ∷ [])
record_and_number = refl

abbrev string_p : Layout
string_p =
    layout_with Little 4 (type_of "p" 4 (string "p" 4 0 ∷ []) ∷ [])

-- record against text
record_and_text : clash nested_twice string_p ≡ Some (name "p" ∷ [])
record_and_text = refl

abbrev arrays_of_records : Layout
arrays_of_records =
    layout_with Little 4 (type_of "a" 4 (integer "k" 4 0 ∷ []) ∷ type_of "b" 8 (array 2 (nested "q" 0 4 0) ∷ [])
    ∷ type_of "c" 16 (array 2 (nested "p" 1 8 0) ∷ []) ∷ [])

abbrev deep_text_counted : Layout
deep_text_counted =
    layout_with Big 8 (type_of "a" 8 (string "k" 8 0 ∷ []) ∷ type_of "b" 8 (nested "u" 0 8 0 ∷ [])
    ∷ type_of "b2" 16 (integer "w" 8 0 ∷ counted 0 (nested "q" 0 8 8) ∷ []) ∷ type_of "c" 32 (string "v" 8 16
    ∷ array 1 (nested "p" 2 16 0) ∷ integer "x" 8 24 ∷ []) ∷ [])

-- three deep through arrays
clash_three_deep : clash arrays_of_records deep_text_counted ≡ Some (name "p" ∷ name "q" ∷ name "k" ∷ [])
clash_three_deep = refl

abbrev other_name_inside : Layout
other_name_inside =
    layout_with Big 8 (type_of "a" 8 (string "k" 8 0 ∷ []) ∷ type_of "b" 8 (nested "u" 0 8 0 ∷ [])
    ∷ type_of "c" 8 (array 1 (nested "p" 1 8 0) ∷ []) ∷ [])

-- no partner inside the nested type: none
no_partner_inside : clash arrays_of_records other_name_inside ≡ None
no_partner_inside = refl

abbrev same_names_inside : Layout
same_names_inside =
    layout_with Big 8 (type_of "a" 8 (integer "k" 8 0 ∷ []) ∷ type_of "b" 8 (array 1 (nested "q" 0 8 0) ∷ [])
    ∷ type_of "c" 16 (integer "y" 8 8 ∷ array 1 (nested "p" 1 8 0) ∷ []) ∷ [])

-- a clash behind a nested match without one
no_clash_inside : clash arrays_of_records same_names_inside ≡ None
no_clash_inside = refl

abbrev x_then_y : Layout
x_then_y =
    layout_with Little 4 (type_of "p" 8 (integer "x" 4 0 ∷ integer "y" 4 4 ∷ []) ∷ [])

abbrev y_then_x_as_texts : Layout
y_then_x_as_texts =
    layout_with Little 4 (type_of "p" 8 (string "y" 4 0 ∷ string "x" 4 4 ∷ []) ∷ [])

-- two clashes, the second field has the first in the sender order
first_in_the_receivers_order : clash x_then_y y_then_x_as_texts ≡ Some (name "y" ∷ [])
first_in_the_receivers_order = refl

abbrev types_a_and_b : Layout
types_a_and_b =
    layout_with Little 4 (type_of "a" 4 (integer "k" 4 0 ∷ []) ∷ type_of "b" 4 (string "k" 4 0 ∷ [])
    ∷ type_of "c" 8 (nested "p" 1 4 0 ∷ nested "o" 0 4 4 ∷ []) ∷ [])

abbrev type_b_alone : Layout
type_b_alone =
    layout_with Little 4 (type_of "b" 4 (integer "k" 4 0 ∷ []) ∷ type_of "c" 4 (nested "p" 0 4 0 ∷ []) ∷ [])

-- types are reached by fields, not by type names
types_are_reached_by_fields : clash types_a_and_b type_b_alone ≡ Some (name "p" ∷ name "k" ∷ [])
types_are_reached_by_fields = refl

-- array of one number against a number
array_of_one_and_number : clash one_char_in_array one_char ≡ Some (name "s" ∷ [])
array_of_one_and_number = refl

-- text against record
text_and_record : clash string_p nested_twice ≡ Some (name "p" ∷ [])
text_and_record = refl

-- number against record
number_and_record : clash number_p nested_twice ≡ Some (name "p" ∷ [])
number_and_record = refl

abbrev strings_p : Layout
strings_p =
    layout_with Little 4 (type_of "p" 4 (array 1 (string "p" 4 0) ∷ []) ∷ [])

-- array of records against array of texts
records_and_texts_in_arrays : clash record_then_number strings_p ≡ Some (name "p" ∷ [])
records_and_texts_in_arrays = refl
