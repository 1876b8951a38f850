-- What bytes are in a format.
-- The answers were worked out by hand, and found again by an implementation that shares no code with this one.
use Rattle.std.proofs.Common.{◌≡◌, pos, negsuc, refl, [], ◌∷◌, Ok, Err}
use Rattle.evp_base.specs.declared.order.Order.TheVariants.{Little, Big}
use Rattle.evp_format.specs.declared.broken.Broken.TheVariants as fault
use Rattle.evp_format.specs.declared.place.PlaceStep.TheVariants.{At, Nth}
use Rattle.evp_format.specs.Datum.{num}
use Rattle.evp_format.specs.Layout.{Layout, layout_with}
use Rattle.evp_format.specs.Viewing.{view}
use Rattle.evp_format.proofs.Worked.{integer, unsigned, char, boolean, enumeration, string, nested, array, counted, type_of, number, absent}
use Rattle.evp_format.proofs.Worked.{written, listed, record_of}

abbrev one_string : Layout
one_string =
    layout_with Little 4 (type_of "p" 4 (string "s" 4 0 ∷ []) ∷ [])

-- pointer inside the fixed part
pointer_inside_the_fixed_part : view one_string (3 ∷ 0 ∷ 0 ∷ 0 ∷ 97 ∷ 0 ∷ []) ≡ Err (fault.BlockPlace (At 0 ∷ []))
pointer_inside_the_fixed_part = refl

-- pointer 0
pointer_zero : view one_string (0 ∷ 0 ∷ 0 ∷ 0 ∷ []) ≡ Ok (record_of (absent "s" ∷ []))
pointer_zero = refl

-- pointer at the end of the bytes
pointer_at_the_end : view one_string (5 ∷ 0 ∷ 0 ∷ 0 ∷ 0 ∷ []) ≡ Err (fault.BlockPlace (At 0 ∷ []))
pointer_at_the_end = refl

-- last byte, a zero
last_byte_is_the_zero : view one_string (4 ∷ 0 ∷ 0 ∷ 0 ∷ 0 ∷ []) ≡ Ok (record_of (written "s" "" ∷ []))
last_byte_is_the_zero = refl

-- gap and trailing bytes ignored
gaps_and_rest_are_ignored : view one_string (6 ∷ 0 ∷ 0 ∷ 0 ∷ 1 ∷ 2 ∷ 97 ∷ 0 ∷ 9 ∷ 9 ∷ [])
    ≡ Ok (record_of (written "s" "a" ∷ []))
gaps_and_rest_are_ignored = refl

abbrev t_then_s : Layout
t_then_s =
    layout_with Big 4 (type_of "p" 8 (string "t" 4 4 ∷ string "s" 4 0 ∷ []) ∷ [])

-- walk as listed, not by offset: t first
walk_as_listed : view t_then_s (0 ∷ 0 ∷ 0 ∷ 8 ∷ 0 ∷ 0 ∷ 0 ∷ 10 ∷ 97 ∷ 0 ∷ 98 ∷ 0 ∷ [])
    ≡ Err (fault.BlockPlace (At 1 ∷ []))
walk_as_listed = refl

-- both share a block
block_is_not_shared : view t_then_s (0 ∷ 0 ∷ 0 ∷ 8 ∷ 0 ∷ 0 ∷ 0 ∷ 8 ∷ 97 ∷ 0 ∷ []) ≡ Err (fault.BlockPlace (At 1 ∷ []))
block_is_not_shared = refl

-- next block may start right behind the zero
next_block_behind_the_zero : view t_then_s (0 ∷ 0 ∷ 0 ∷ 10 ∷ 0 ∷ 0 ∷ 0 ∷ 8 ∷ 97 ∷ 0 ∷ 98 ∷ 0 ∷ [])
    ≡ Ok (record_of (written "t" "a" ∷ written "s" "b" ∷ []))
next_block_behind_the_zero = refl

-- two faults: the first listed
first_listed_fault : view t_then_s (0 ∷ 0 ∷ 0 ∷ 1 ∷ 0 ∷ 0 ∷ 0 ∷ 2 ∷ 97 ∷ 0 ∷ []) ≡ Err (fault.BlockPlace (At 0 ∷ []))
first_listed_fault = refl

abbrev halves_and_count : Layout
halves_and_count =
    layout_with Little 4 (type_of "p" 8 (counted 1 (unsigned "a" 2 0) ∷ integer "n" 4 4 ∷ []) ∷ [])

-- block that ends at the end
block_ends_at_the_end : view halves_and_count (8 ∷ 0 ∷ 0 ∷ 0 ∷ 2 ∷ 0 ∷ 0 ∷ 0 ∷ 1 ∷ 0 ∷ 2 ∷ 0 ∷ [])
    ≡ Ok (record_of (listed "a" (num (pos 1) ∷ num (pos 2) ∷ []) ∷ number "n" (pos 2) ∷ []))
block_ends_at_the_end = refl

-- one byte less
block_one_byte_short : view halves_and_count (8 ∷ 0 ∷ 0 ∷ 0 ∷ 2 ∷ 0 ∷ 0 ∷ 0 ∷ 1 ∷ 0 ∷ 2 ∷ [])
    ≡ Err (fault.BlockPlace (At 0 ∷ []))
block_one_byte_short = refl

-- count 0: any pointer
count_zero_ignores_the_pointer : view halves_and_count (255 ∷ 255 ∷ 255 ∷ 255 ∷ 0 ∷ 0 ∷ 0 ∷ 0 ∷ [])
    ≡ Ok (record_of (listed "a" [] ∷ number "n" (pos 0) ∷ []))
count_zero_ignores_the_pointer = refl

-- negative before null
negative_before_null : view halves_and_count (0 ∷ 0 ∷ 0 ∷ 0 ∷ 255 ∷ 255 ∷ 255 ∷ 255 ∷ [])
    ≡ Err (fault.NegativeCount (At 0 ∷ []))
negative_before_null = refl

-- null before place
null_before_place : view halves_and_count (0 ∷ 0 ∷ 0 ∷ 0 ∷ 255 ∷ 255 ∷ 255 ∷ 127 ∷ [])
    ≡ Err (fault.NullList (At 0 ∷ []))
null_before_place = refl

-- pointer below the length
pointer_below_the_length : view halves_and_count (7 ∷ 0 ∷ 0 ∷ 0 ∷ 1 ∷ 0 ∷ 0 ∷ 0 ∷ 1 ∷ 0 ∷ 2 ∷ 0 ∷ [])
    ≡ Err (fault.BlockPlace (At 0 ∷ []))
pointer_below_the_length = refl

abbrev wide_count : Layout
wide_count =
    layout_with Big 8 (type_of "p" 16 (unsigned "n" 8 0 ∷ counted 0 (integer "a" 8 8) ∷ []) ∷ [])

-- count 2^63, unsigned: no overflow, no negative
count_of_2_63 : view wide_count (128 ∷ 0 ∷ 0 ∷ 0 ∷ 0 ∷ 0 ∷ 0 ∷ 0 ∷ 0 ∷ 0 ∷ 0 ∷ 0 ∷ 0 ∷ 0 ∷ 0 ∷ 16 ∷ 0 ∷ 0 ∷ 0 ∷ 0 ∷ 0
    ∷ 0 ∷ 0 ∷ 0 ∷ [])
    ≡ Err (fault.BlockPlace (At 1 ∷ []))
count_of_2_63 = refl

-- pointer 2^64-1 with count 1: no wrap
pointer_of_2_64_less_1 : view wide_count (0 ∷ 0 ∷ 0 ∷ 0 ∷ 0 ∷ 0 ∷ 0 ∷ 1 ∷ 255 ∷ 255 ∷ 255 ∷ 255 ∷ 255 ∷ 255 ∷ 255
    ∷ 255 ∷ 0 ∷ 0 ∷ 0 ∷ 0 ∷ 0 ∷ 0 ∷ 0 ∷ 0 ∷ [])
    ≡ Err (fault.BlockPlace (At 1 ∷ []))
pointer_of_2_64_less_1 = refl

-- count 2^61 and size 8: 2^64 + 16 does not wrap
count_of_2_61_by_8 : view wide_count (32 ∷ 0 ∷ 0 ∷ 0 ∷ 0 ∷ 0 ∷ 0 ∷ 0 ∷ 0 ∷ 0 ∷ 0 ∷ 0 ∷ 0 ∷ 0 ∷ 0 ∷ 16 ∷ 0 ∷ 0 ∷ 0 ∷ 0
    ∷ 0 ∷ 0 ∷ 0 ∷ 0 ∷ [])
    ≡ Err (fault.BlockPlace (At 1 ∷ []))
count_of_2_61_by_8 = refl

abbrev texts_of_records : Layout
texts_of_records =
    layout_with Little 4 (type_of "e" 4 (string "s" 4 0 ∷ []) ∷ type_of "r" 8 (counted 1 (nested "p" 0 4 0)
    ∷ unsigned "n" 1 4 ∷ []) ∷ [])

-- element texts behind their array
texts_behind_their_array : view texts_of_records (8 ∷ 0 ∷ 0 ∷ 0 ∷ 2 ∷ 0 ∷ 0 ∷ 0 ∷ 16 ∷ 0 ∷ 0 ∷ 0 ∷ 18 ∷ 0 ∷ 0 ∷ 0
    ∷ 97 ∷ 0 ∷ 98 ∷ 0 ∷ [])
    ≡ Ok (record_of (listed "p" (record_of (written "s" "a" ∷ []) ∷ record_of (written "s" "b" ∷ []) ∷ [])
    ∷ number "n" (pos 2) ∷ []))
texts_behind_their_array = refl

-- element text before the mark of its array
text_before_its_array : view texts_of_records (10 ∷ 0 ∷ 0 ∷ 0 ∷ 1 ∷ 0 ∷ 0 ∷ 0 ∷ 97 ∷ 0 ∷ 8 ∷ 0 ∷ 0 ∷ 0 ∷ [])
    ≡ Err (fault.BlockPlace (At 0 ∷ Nth 0 ∷ At 0 ∷ []))
text_before_its_array = refl

-- second element has no end
second_text_has_no_end : view texts_of_records (8 ∷ 0 ∷ 0 ∷ 0 ∷ 2 ∷ 0 ∷ 0 ∷ 0 ∷ 16 ∷ 0 ∷ 0 ∷ 0 ∷ 18 ∷ 0 ∷ 0 ∷ 0 ∷ 97
    ∷ 0 ∷ 98 ∷ 98 ∷ [])
    ≡ Err (fault.NoEnd (At 0 ∷ Nth 1 ∷ At 0 ∷ []))
second_text_has_no_end = refl

-- second element overlaps the first text
second_text_overlaps : view texts_of_records (8 ∷ 0 ∷ 0 ∷ 0 ∷ 2 ∷ 0 ∷ 0 ∷ 0 ∷ 16 ∷ 0 ∷ 0 ∷ 0 ∷ 17 ∷ 0 ∷ 0 ∷ 0 ∷ 97
    ∷ 0 ∷ 98 ∷ 0 ∷ [])
    ≡ Err (fault.BlockPlace (At 0 ∷ Nth 1 ∷ At 0 ∷ []))
second_text_overlaps = refl

-- short before all
short_before_all : view texts_of_records (255 ∷ 255 ∷ 255 ∷ 255 ∷ 255 ∷ 255 ∷ 255 ∷ []) ≡ Err fault.ShortRecord
short_before_all = refl

abbrev texts_then_a_list : Layout
texts_then_a_list =
    layout_with Little 4 (type_of "e" 4 (string "s" 4 0 ∷ []) ∷ type_of "r" 12 (counted 1 (nested "p" 0 4 0)
    ∷ unsigned "n" 1 4 ∷ counted 1 (char "q" 1 8) ∷ []) ∷ [])

-- the array is in the way of the list that follows: mark behind the elements texts
list_behind_the_texts : view texts_then_a_list (12 ∷ 0 ∷ 0 ∷ 0 ∷ 1 ∷ 0 ∷ 0 ∷ 0 ∷ 17 ∷ 0 ∷ 0 ∷ 0 ∷ 16 ∷ 0 ∷ 0 ∷ 0 ∷ 97
    ∷ 0 ∷ [])
    ≡ Err (fault.BlockPlace (At 2 ∷ []))
list_behind_the_texts = refl

abbrev kinds_by_bits : Layout
kinds_by_bits =
    layout_with Big 4 (type_of "p" 12 (boolean "b" 8 0 ∷ boolean "c" 2 8 ∷ char "d" 1 10 ∷ enumeration "e" 1 11 ∷ [])
    ∷ [])

-- booleans by any bit, char unsigned, enumeration signed
kinds_by_their_bits : view kinds_by_bits (0 ∷ 0 ∷ 0 ∷ 64 ∷ 0 ∷ 0 ∷ 0 ∷ 0 ∷ 0 ∷ 0 ∷ 255 ∷ 255 ∷ [])
    ≡ Ok (record_of (number "b" (pos 1) ∷ number "c" (pos 0) ∷ number "d" (pos 255) ∷ number "e" (negsuc 0) ∷ []))
kinds_by_their_bits = refl

abbrev records_at_odd_offset : Layout
records_at_odd_offset =
    layout_with Little 4 (type_of "e" 6 (integer "k" 2 0 ∷ unsigned "j" 1 5 ∷ []) ∷ type_of "r" 14 (unsigned "x" 1 13
    ∷ array 2 (nested "p" 0 6 1) ∷ []) ∷ [])

-- static array of records at an odd offset
records_at_an_odd_offset : view records_at_odd_offset (9 ∷ 1 ∷ 0 ∷ 9 ∷ 9 ∷ 9 ∷ 2 ∷ 255 ∷ 255 ∷ 9 ∷ 9 ∷ 9 ∷ 4 ∷ 7 ∷ [])
    ≡ Ok (record_of (number "x" (pos 7) ∷ listed "p" (record_of (number "k" (pos 1) ∷ number "j" (pos 2) ∷ [])
    ∷ record_of (number "k" (negsuc 0) ∷ number "j" (pos 4) ∷ []) ∷ []) ∷ []))
records_at_an_odd_offset = refl
