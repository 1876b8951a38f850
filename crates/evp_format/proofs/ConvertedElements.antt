-- Texts and records as elements: the blocks that they take, one after another.
-- The answers were worked out by hand, and found again by an implementation that shares no code with this one.
use Rattle.std.proofs.Common.{◌≡◌, pos, negsuc, refl, [], ◌∷◌, codes}
use Rattle.evp_base.specs.declared.order.Order.TheVariants.{Little, Big}
use Rattle.evp_format.specs.Conversion.{conversion, converted, unfit_at, large_at}
use Rattle.evp_format.specs.Datum.{num, null, text}
use Rattle.evp_format.specs.Layout.{Layout, layout_with}
use Rattle.evp_format.proofs.Worked.{integer, string, nested, array, counted, stated, type_of, name, index, number, absent, written, listed}
use Rattle.evp_format.proofs.Worked.{record_of}

abbrev three_strings : Layout
three_strings =
    layout_with Little 4 (type_of "p" 12 (array 3 (string "s" 4 0) ∷ []) ∷ [])

abbrev strings_at_odd_offset : Layout
strings_at_odd_offset =
    layout_with Big 4 (type_of "p" 13 (array 3 (string "s" 4 1) ∷ []) ∷ [])

-- null, empty, a: 16+1=17, 24+2=26
null_empty_and_one_byte : conversion three_strings strings_at_odd_offset
    (record_of (listed "s" (null ∷ text (codes "") ∷ text (codes "a") ∷ []) ∷ [])) 26
    ≡ converted (record_of (listed "s" (null ∷ text (codes "") ∷ text (codes "a") ∷ []) ∷ [])) 26
null_empty_and_one_byte = refl

-- one below: s[2]
third_text_one_below : conversion three_strings strings_at_odd_offset
    (record_of (listed "s" (null ∷ text (codes "") ∷ text (codes "a") ∷ []) ∷ [])) 25
    ≡ large_at (name "s" ∷ index 2 ∷ [])
third_text_one_below = refl

-- below 17: s[1], the empty text
empty_text_takes_a_block : conversion three_strings strings_at_odd_offset
    (record_of (listed "s" (null ∷ text (codes "") ∷ text (codes "a") ∷ []) ∷ [])) 16
    ≡ large_at (name "s" ∷ index 1 ∷ [])
empty_text_takes_a_block = refl

abbrev list_of_records : Layout
list_of_records =
    layout_with Little 8 (type_of "e" 16 (integer "k" 8 0 ∷ string "s" 8 8 ∷ []) ∷ type_of "r" 16 (integer "n" 8 0
    ∷ counted 0 (nested "p" 0 16 8) ∷ []) ∷ [])

abbrev list_with_a_new_field : Layout
list_with_a_new_field =
    layout_with Little 4 (type_of "e" 12 (stated (pos 7) (integer "z" 4 0) ∷ string "s" 4 4 ∷ integer "k" 1 8 ∷ [])
    ∷ type_of "r" 8 (counted 1 (nested "p" 0 12 0) ∷ integer "n" 4 4 ∷ []) ∷ [])

-- z missing in each element: its default; 8+24=32, 32+3=35
new_field_has_its_default : conversion list_of_records list_with_a_new_field
    (record_of (number "n" (pos 2) ∷ listed "p" (record_of (number "k" (pos 1) ∷ written "s" "ab" ∷ [])
    ∷ record_of (number "k" (pos 2) ∷ absent "s" ∷ []) ∷ []) ∷ [])) 35
    ≡ converted (record_of (listed "p" (record_of (number "z" (pos 7) ∷ written "s" "ab" ∷ number "k" (pos 1) ∷ [])
    ∷ record_of (number "z" (pos 7) ∷ absent "s" ∷ number "k" (pos 2) ∷ []) ∷ []) ∷ number "n" (pos 2) ∷ [])) 35
new_field_has_its_default = refl

-- one below: p[0].s
first_text_one_below : conversion list_of_records list_with_a_new_field
    (record_of (number "n" (pos 2) ∷ listed "p" (record_of (number "k" (pos 1) ∷ written "s" "ab" ∷ [])
    ∷ record_of (number "k" (pos 2) ∷ absent "s" ∷ []) ∷ []) ∷ [])) 34
    ≡ large_at (name "p" ∷ index 0 ∷ name "s" ∷ [])
first_text_one_below = refl

-- list block: 31 is below 32
list_block_one_below : conversion list_of_records list_with_a_new_field
    (record_of (number "n" (pos 2) ∷ listed "p" (record_of (number "k" (pos 1) ∷ written "s" "ab" ∷ [])
    ∷ record_of (number "k" (pos 2) ∷ absent "s" ∷ []) ∷ []) ∷ [])) 31
    ≡ large_at (name "p" ∷ [])
list_block_one_below = refl

-- the first element whole before the second: p[0].s large before p[1].k unfit
first_element_whole_before_the_second : conversion list_of_records list_with_a_new_field
    (record_of (number "n" (pos 2) ∷ listed "p" (record_of (number "k" (pos 1) ∷ written "s" "ab" ∷ [])
    ∷ record_of (number "k" (pos 128) ∷ absent "s" ∷ []) ∷ []) ∷ [])) 34
    ≡ large_at (name "p" ∷ index 0 ∷ name "s" ∷ [])
first_element_whole_before_the_second = refl

-- then p[1].k
second_element_behind_the_first : conversion list_of_records list_with_a_new_field
    (record_of (number "n" (pos 2) ∷ listed "p" (record_of (number "k" (pos 1) ∷ written "s" "ab" ∷ [])
    ∷ record_of (number "k" (pos 128) ∷ absent "s" ∷ []) ∷ []) ∷ [])) 35
    ≡ unfit_at (name "p" ∷ index 1 ∷ name "k" ∷ [])
second_element_behind_the_first = refl

abbrev records_with_counts : Layout
records_with_counts =
    layout_with Little 4 (type_of "e" 8 (integer "n" 4 0 ∷ integer "j" 4 4 ∷ [])
    ∷ type_of "r" 16 (array 2 (nested "p" 0 8 0) ∷ []) ∷ [])

abbrev records_with_lists : Layout
records_with_lists =
    layout_with Little 4 (type_of "e" 8 (counted 1 (integer "a" 2 4) ∷ integer "n" 2 0 ∷ [])
    ∷ type_of "r" 16 (array 2 (nested "p" 0 8 0) ∷ []) ∷ [])

-- the second element has a negative count
second_element_has_negative_count : conversion records_with_counts records_with_lists
    (record_of (listed "p" (record_of (number "n" (pos 1) ∷ number "j" (pos 0) ∷ [])
    ∷ record_of (number "n" (negsuc 0) ∷ number "j" (pos 0) ∷ []) ∷ []) ∷ [])) 4096
    ≡ unfit_at (name "p" ∷ index 1 ∷ name "a" ∷ [])
second_element_has_negative_count = refl

-- 16+2=18, 24+6=30
lists_inside_elements : conversion records_with_counts records_with_lists
    (record_of (listed "p" (record_of (number "n" (pos 1) ∷ number "j" (pos 0) ∷ []) ∷ record_of (number "n" (pos 3)
    ∷ number "j" (pos 0) ∷ []) ∷ []) ∷ [])) 30
    ≡ converted (record_of (listed "p" (record_of (listed "a" (num (pos 0) ∷ []) ∷ number "n" (pos 1) ∷ [])
    ∷ record_of (listed "a" (num (pos 0) ∷ num (pos 0) ∷ num (pos 0) ∷ []) ∷ number "n" (pos 3) ∷ []) ∷ [])
    ∷ [])) 30
lists_inside_elements = refl

-- one below
lists_inside_elements_one_below : conversion records_with_counts records_with_lists
    (record_of (listed "p" (record_of (number "n" (pos 1) ∷ number "j" (pos 0) ∷ []) ∷ record_of (number "n" (pos 3)
    ∷ number "j" (pos 0) ∷ []) ∷ []) ∷ [])) 29
    ≡ large_at (name "p" ∷ index 1 ∷ name "a" ∷ [])
lists_inside_elements_one_below = refl

abbrev two_texts : Layout
two_texts =
    layout_with Little 4 (type_of "p" 16 (string "s" 4 0 ∷ string "t" 4 4 ∷ integer "n" 4 8 ∷ []) ∷ [])

abbrev list_between_texts : Layout
list_between_texts =
    layout_with Little 4 (type_of "p" 16 (string "s" 4 0 ∷ counted 3 (integer "a" 8 4) ∷ string "t" 4 8
    ∷ integer "n" 4 12 ∷ []) ∷ [])

-- 16+2=18, none, 24+2=26
empty_list_takes_no_block : conversion two_texts list_between_texts
    (record_of (written "s" "x" ∷ written "t" "y" ∷ number "n" (pos 0) ∷ [])) 26
    ≡ converted (record_of (written "s" "x" ∷ listed "a" [] ∷ written "t" "y" ∷ number "n" (pos 0) ∷ [])) 26
empty_list_takes_no_block = refl

-- an empty list at the limit; 26 is too much
empty_list_takes_no_block_one_below : conversion two_texts list_between_texts
    (record_of (written "s" "x" ∷ written "t" "y" ∷ number "n" (pos 0) ∷ [])) 25
    ≡ large_at (name "t" ∷ [])
empty_list_takes_no_block_one_below = refl

abbrev list_of_texts : Layout
list_of_texts =
    layout_with Little 4 (type_of "e" 4 (string "s" 4 0 ∷ []) ∷ type_of "r" 8 (integer "n" 4 4
    ∷ counted 0 (nested "p" 0 4 0) ∷ []) ∷ [])

-- a nested record before a later list, inside it a text: sizes go on
sizes_go_on_into_elements : conversion list_of_records list_of_texts
    (record_of (number "n" (pos 1) ∷ listed "p" (record_of (number "k" (pos 0) ∷ written "s" "" ∷ []) ∷ []) ∷ [])) 17
    ≡ converted (record_of (number "n" (pos 1) ∷ listed "p" (record_of (written "s" "" ∷ []) ∷ []) ∷ [])) 17
sizes_go_on_into_elements = refl
