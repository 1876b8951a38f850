-- The first fault of a conversion: the root, then the numbers of a record, then its other fields as listed.
-- The answers were worked out by hand, and found again by an implementation that shares no code with this one.
use Rattle.std.proofs.Common.{◌≡◌, pos, negsuc, refl, [], ◌∷◌}
use Rattle.evp_base.specs.declared.order.Order.TheVariants.{Little, Big}
use Rattle.evp_format.specs.Conversion.{conversion, clashes, converted, unfit_at, large_at}
use Rattle.evp_format.specs.Datum.{num}
use Rattle.evp_format.specs.Layout.{Layout, layout_with}
use Rattle.evp_format.proofs.Worked.{integer, unsigned, string, nested, array, counted, type_of, name, index, number, absent, written}
use Rattle.evp_format.proofs.Worked.{listed, inside, record_of}

abbrev numbers_then_texts : Layout
numbers_then_texts =
    layout_with Big 8 (type_of "p" 24 (integer "x" 4 0 ∷ integer "w" 4 4 ∷ string "s" 8 8 ∷ string "t" 8 16 ∷ []) ∷ [])

abbrev texts_and_narrow_numbers : Layout
texts_and_narrow_numbers =
    layout_with Little 4 (type_of "p" 12 (string "s" 4 8 ∷ integer "w" 1 0 ∷ string "t" 4 4 ∷ unsigned "x" 1 3 ∷ [])
    ∷ [])

-- a clash comes before all faults of a conversion
a_clash_comes_first : conversion (layout_with Little 4 (type_of "p" 4 (string "w" 4 0 ∷ []) ∷ [])) texts_and_narrow_numbers
    (record_of (written "w" "a" ∷ [])) 1
    ≡ clashes (name "w" ∷ [])
a_clash_comes_first = refl

-- both numbers unfit, both texts large: w is listed before x in the receiver
w_is_listed_before_x : conversion numbers_then_texts texts_and_narrow_numbers
    (record_of (number "x" (pos 300) ∷ number "w" (pos 200) ∷ written "s" "0123456789" ∷ written "t" "" ∷ [])) 12
    ≡ unfit_at (name "w" ∷ [])
w_is_listed_before_x = refl

-- x alone unfit
x_alone_is_unfit : conversion numbers_then_texts texts_and_narrow_numbers
    (record_of (number "x" (pos 300) ∷ number "w" (pos 5) ∷ written "s" "0123456789" ∷ written "t" "" ∷ [])) 12
    ≡ unfit_at (name "x" ∷ [])
x_alone_is_unfit = refl

-- numbers fit, s is listed first: 16 + 11 = 27
s_is_listed_first : conversion numbers_then_texts texts_and_narrow_numbers
    (record_of (number "x" (pos 255) ∷ number "w" (pos 5) ∷ written "s" "0123456789" ∷ written "t" "" ∷ [])) 26
    ≡ large_at (name "s" ∷ [])
s_is_listed_first = refl

-- s at 27 exactly, then t: 32 + 1 = 33
s_fits_exactly_then_t : conversion numbers_then_texts texts_and_narrow_numbers
    (record_of (number "x" (pos 255) ∷ number "w" (negsuc 127) ∷ written "s" "0123456789" ∷ written "t" "" ∷ [])) 32
    ≡ large_at (name "t" ∷ [])
s_fits_exactly_then_t = refl

-- t at 33 exactly
t_fits_exactly : conversion numbers_then_texts texts_and_narrow_numbers
    (record_of (number "x" (pos 255) ∷ number "w" (negsuc 127) ∷ written "s" "0123456789" ∷ written "t" "" ∷ [])) 33
    ≡ converted (record_of (written "s" "0123456789" ∷ number "w" (negsuc 127) ∷ written "t" ""
    ∷ number "x" (pos 255) ∷ [])) 33
t_fits_exactly = refl

-- the root before all else, numbers too
root_before_numbers : conversion numbers_then_texts texts_and_narrow_numbers
    (record_of (number "x" (pos 300) ∷ number "w" (pos 200) ∷ written "s" "0123456789" ∷ written "t" "" ∷ [])) 11
    ≡ large_at []
root_before_numbers = refl

-- length exactly at the limit
length_at_the_limit : conversion numbers_then_texts texts_and_narrow_numbers
    (record_of (number "x" (pos 0) ∷ number "w" (pos 0) ∷ absent "s" ∷ absent "t" ∷ [])) 12
    ≡ converted (record_of (absent "s" ∷ number "w" (pos 0) ∷ absent "t" ∷ number "x" (pos 0) ∷ [])) 12
length_at_the_limit = refl

abbrev record_text_array : Layout
record_text_array =
    layout_with Little 8 (type_of "e" 2 (integer "k" 2 0 ∷ []) ∷ type_of "r" 24 (nested "p" 0 2 0 ∷ integer "x" 2 2
    ∷ string "q" 8 8 ∷ array 2 (integer "a" 4 16) ∷ []) ∷ [])

abbrev narrow_record_text_array : Layout
narrow_record_text_array =
    layout_with Little 4 (type_of "e" 1 (integer "k" 1 0 ∷ []) ∷ type_of "r" 12 (nested "p" 0 1 0 ∷ string "q" 4 4
    ∷ array 2 (integer "a" 1 8) ∷ integer "x" 1 2 ∷ []) ∷ [])

-- outer number x, listed last, before the nested k
outer_number_before_nested : conversion record_text_array narrow_record_text_array
    (record_of (inside "p" (number "k" (pos 300) ∷ []) ∷ number "x" (pos 300) ∷ written "q" "abc"
    ∷ listed "a" (num (pos 1) ∷ num (pos 300) ∷ []) ∷ [])) 12
    ≡ unfit_at (name "x" ∷ [])
outer_number_before_nested = refl

-- nested k before the text q
nested_number_before_text : conversion record_text_array narrow_record_text_array
    (record_of (inside "p" (number "k" (pos 300) ∷ []) ∷ number "x" (pos 1) ∷ written "q" "abc"
    ∷ listed "a" (num (pos 1) ∷ num (pos 300) ∷ []) ∷ [])) 12
    ≡ unfit_at (name "p" ∷ name "k" ∷ [])
nested_number_before_text = refl

-- q before a[1]: 16 + 4
text_before_element : conversion record_text_array narrow_record_text_array
    (record_of (inside "p" (number "k" (pos 1) ∷ []) ∷ number "x" (pos 1) ∷ written "q" "abc"
    ∷ listed "a" (num (pos 1) ∷ num (pos 300) ∷ []) ∷ [])) 19
    ≡ large_at (name "q" ∷ [])
text_before_element = refl

-- a[1] is reached at 20
element_behind_text : conversion record_text_array narrow_record_text_array
    (record_of (inside "p" (number "k" (pos 1) ∷ []) ∷ number "x" (pos 1) ∷ written "q" "abc"
    ∷ listed "a" (num (pos 1) ∷ num (pos 300) ∷ []) ∷ [])) 20
    ≡ unfit_at (name "a" ∷ index 1 ∷ [])
element_behind_text = refl

abbrev text_then_record : Layout
text_then_record =
    layout_with Big 4 (type_of "e" 1 (integer "k" 1 0 ∷ []) ∷ type_of "r" 8 (string "q" 4 4 ∷ nested "p" 0 1 0 ∷ [])
    ∷ [])

-- q listed before p: large q, not unfit p.k
text_listed_before_record : conversion record_text_array text_then_record
    (record_of (inside "p" (number "k" (pos 300) ∷ []) ∷ number "x" (pos 300) ∷ written "q" "abc"
    ∷ listed "a" (num (pos 1) ∷ num (pos 300) ∷ []) ∷ [])) 11
    ≡ large_at (name "q" ∷ [])
text_listed_before_record = refl

-- 12 is enough for q (8 + 4): then p.k
record_behind_text : conversion record_text_array text_then_record
    (record_of (inside "p" (number "k" (pos 300) ∷ []) ∷ number "x" (pos 300) ∷ written "q" "abc"
    ∷ listed "a" (num (pos 1) ∷ num (pos 300) ∷ []) ∷ [])) 12
    ≡ unfit_at (name "p" ∷ name "k" ∷ [])
record_behind_text = refl

abbrev array_and_count : Layout
array_and_count =
    layout_with Little 4 (type_of "p" 8 (counted 1 (integer "a" 4 0) ∷ integer "n" 4 4 ∷ []) ∷ [])

abbrev unsigned_array : Layout
unsigned_array =
    layout_with Big 8 (type_of "p" 16 (counted 1 (unsigned "a" 8 8) ∷ unsigned "n" 8 0 ∷ []) ∷ [])

-- size before elements: 16 + 16 = 32
block_before_elements : conversion array_and_count unsigned_array
    (record_of (listed "a" (num (negsuc 0) ∷ num (pos 5) ∷ []) ∷ number "n" (pos 2) ∷ [])) 31
    ≡ large_at (name "a" ∷ [])
block_before_elements = refl

-- then the element
element_behind_block : conversion array_and_count unsigned_array
    (record_of (listed "a" (num (pos 5) ∷ num (negsuc 0) ∷ []) ∷ number "n" (pos 2) ∷ [])) 32
    ≡ unfit_at (name "a" ∷ index 1 ∷ [])
element_behind_block = refl

abbrev three_unsigned : Layout
three_unsigned =
    layout_with Big 8 (type_of "p" 24 (array 3 (unsigned "a" 8 0) ∷ []) ∷ [])

-- length before elements, static
length_before_elements : conversion array_and_count three_unsigned
    (record_of (listed "a" (num (negsuc 0) ∷ num (negsuc 1) ∷ []) ∷ number "n" (pos 2) ∷ [])) 24
    ≡ unfit_at (name "a" ∷ [])
length_before_elements = refl

-- static of the same length; no block, so limit = length
no_block_inside_the_record : conversion array_and_count three_unsigned
    (record_of (listed "a" (num (pos 1) ∷ num (pos 2) ∷ num (pos 3) ∷ []) ∷ number "n" (pos 3) ∷ [])) 24
    ≡ converted (record_of (listed "a" (num (pos 1) ∷ num (pos 2) ∷ num (pos 3) ∷ []) ∷ [])) 24
no_block_inside_the_record = refl

-- static limit below the length
root_before_array : conversion array_and_count three_unsigned
    (record_of (listed "a" (num (pos 1) ∷ num (pos 2) ∷ []) ∷ number "n" (pos 2) ∷ [])) 23
    ≡ large_at []
root_before_array = refl

abbrev counts_then_array : Layout
counts_then_array =
    layout_with Little 4 (type_of "p" 16 (integer "m" 4 0 ∷ integer "n" 4 4 ∷ counted 1 (integer "a" 4 8) ∷ []) ∷ [])

abbrev array_of_m : Layout
array_of_m =
    layout_with Little 4 (type_of "p" 8 (counted 1 (integer "a" 4 0) ∷ integer "m" 4 4 ∷ []) ∷ [])

-- length 2 is not the count 3, and the block of 3 is too large too
length_before_block : conversion counts_then_array array_of_m
    (record_of (number "m" (pos 3) ∷ number "n" (pos 2) ∷ listed "a" (num (pos 1) ∷ num (pos 2) ∷ []) ∷ [])) 8
    ≡ unfit_at (name "a" ∷ [])
length_before_block = refl

-- the same, of equal length: large
block_behind_length : conversion counts_then_array array_of_m
    (record_of (number "m" (pos 2) ∷ number "n" (pos 2) ∷ listed "a" (num (pos 1) ∷ num (pos 2) ∷ []) ∷ [])) 8
    ≡ large_at (name "a" ∷ [])
block_behind_length = refl
