-- Lists by the receiver's own count: from a partner, or zeros.
-- The answers were worked out by hand, and found again by an implementation that shares no code with this one.
use Rattle.std.proofs.Common.{◌≡◌, pos, negsuc, refl, [], ◌∷◌}
use Rattle.evp_base.specs.declared.order.Order.TheVariants.{Little}
use Rattle.evp_format.specs.Conversion.{conversion, converted, unfit_at, large_at}
use Rattle.evp_format.specs.Datum.{num}
use Rattle.evp_format.specs.Layout.{Layout, layout_with}
use Rattle.evp_format.proofs.Worked.{integer, unsigned, char, array, counted, type_of, name, number, listed, record_of}

abbrev array_and_count : Layout
array_and_count =
    layout_with Little 4 (type_of "p" 8 (counted 1 (integer "a" 4 0) ∷ integer "n" 4 4 ∷ []) ∷ [])

abbrev two_arrays_one_count : Layout
two_arrays_one_count =
    layout_with Little 4 (type_of "p" 12 (counted 1 (integer "a" 4 0) ∷ integer "m" 4 4 ∷ counted 1 (integer "b" 2 8)
    ∷ []) ∷ [])

-- the receiver counts by m, which the sender lacks: 0 is not 2
receiver_counts_by_its_own_field : conversion array_and_count two_arrays_one_count
    (record_of (listed "a" (num (pos 1) ∷ num (pos 2) ∷ []) ∷ number "n" (pos 2) ∷ [])) 4096
    ≡ unfit_at (name "a" ∷ [])
receiver_counts_by_its_own_field = refl

-- an empty list fits the default count; b is empty too
empty_list_fits_count_of_default : conversion array_and_count two_arrays_one_count
    (record_of (listed "a" [] ∷ number "n" (pos 0) ∷ [])) 12
    ≡ converted (record_of (listed "a" [] ∷ number "m" (pos 0) ∷ listed "b" [] ∷ [])) 12
empty_list_fits_count_of_default = refl

abbrev two_counts_one_array : Layout
two_counts_one_array =
    layout_with Little 4 (type_of "p" 12 (integer "m" 4 0 ∷ integer "n" 4 4 ∷ counted 1 (integer "a" 4 8) ∷ []) ∷ [])

-- both numbers there, other count: m 3, list 2
other_count_than_the_senders : conversion two_counts_one_array two_arrays_one_count
    (record_of (number "m" (pos 3) ∷ number "n" (pos 2) ∷ listed "a" (num (pos 1) ∷ num (pos 2) ∷ []) ∷ [])) 4096
    ≡ unfit_at (name "a" ∷ [])
other_count_than_the_senders = refl

-- same: a takes 16 + 8, b zeros take 24 + 4
partner_then_zeros : conversion two_counts_one_array two_arrays_one_count
    (record_of (number "m" (pos 2) ∷ number "n" (pos 2) ∷ listed "a" (num (pos 1) ∷ num (pos 2) ∷ []) ∷ [])) 28
    ≡ converted (record_of (listed "a" (num (pos 1) ∷ num (pos 2) ∷ []) ∷ number "m" (pos 2)
    ∷ listed "b" (num (pos 0) ∷ num (pos 0) ∷ []) ∷ [])) 28
partner_then_zeros = refl

-- one below
zeros_one_below : conversion two_counts_one_array two_arrays_one_count
    (record_of (number "m" (pos 2) ∷ number "n" (pos 2) ∷ listed "a" (num (pos 1) ∷ num (pos 2) ∷ []) ∷ [])) 27
    ≡ large_at (name "b" ∷ [])
zeros_one_below = refl

-- a negative count fits no list, also not the empty one
negative_count_fits_no_empty_list : conversion two_counts_one_array two_arrays_one_count
    (record_of (number "m" (negsuc 0) ∷ number "n" (pos 0) ∷ listed "a" [] ∷ [])) 4096
    ≡ unfit_at (name "a" ∷ [])
negative_count_fits_no_empty_list = refl

abbrev array_before_its_count : Layout
array_before_its_count =
    layout_with Little 4 (type_of "p" 12 (counted 1 (integer "b" 2 8) ∷ integer "m" 4 4 ∷ []) ∷ [])

-- a negative count fits no list of zeros
negative_count_fits_no_zeros : conversion two_counts_one_array array_before_its_count
    (record_of (number "m" (negsuc 2147483647) ∷ number "n" (pos 0) ∷ listed "a" [] ∷ [])) 4096
    ≡ unfit_at (name "b" ∷ [])
negative_count_fits_no_zeros = refl

abbrev byte_count : Layout
byte_count =
    layout_with Little 4 (type_of "p" 8 (counted 1 (integer "b" 2 4) ∷ unsigned "m" 1 0 ∷ []) ∷ [])

-- an unsigned count: the number itself is unfit first
count_itself_is_unfit : conversion two_counts_one_array byte_count
    (record_of (number "m" (negsuc 0) ∷ number "n" (pos 0) ∷ listed "a" [] ∷ [])) 4096
    ≡ unfit_at (name "m" ∷ [])
count_itself_is_unfit = refl

-- count just above its range
count_just_above_its_range : conversion two_counts_one_array byte_count
    (record_of (number "m" (pos 256) ∷ number "n" (pos 0) ∷ listed "a" [] ∷ [])) 4096
    ≡ unfit_at (name "m" ∷ [])
count_just_above_its_range = refl

-- count at its greatest: 8 + 510
greatest_count_is_large : conversion two_counts_one_array byte_count
    (record_of (number "m" (pos 255) ∷ number "n" (pos 0) ∷ listed "a" [] ∷ [])) 517
    ≡ large_at (name "b" ∷ [])
greatest_count_is_large = refl

-- count 3: 8 + 6
zeros_at_the_limit : conversion two_counts_one_array byte_count
    (record_of (number "m" (pos 3) ∷ number "n" (pos 0) ∷ listed "a" [] ∷ [])) 14
    ≡ converted (record_of (listed "b" (num (pos 0) ∷ num (pos 0) ∷ num (pos 0) ∷ []) ∷ number "m" (pos 3) ∷ [])) 14
zeros_at_the_limit = refl

abbrev two_and_a_char : Layout
two_and_a_char =
    layout_with Little 4 (type_of "p" 16 (array 2 (integer "a" 4 0) ∷ char "m" 1 12 ∷ []) ∷ [])

-- static into counted: the count says 3
static_into_counted_by_three : conversion two_and_a_char two_arrays_one_count
    (record_of (listed "a" (num (pos 1) ∷ num (pos 2) ∷ []) ∷ number "m" (pos 3) ∷ [])) 4096
    ≡ unfit_at (name "a" ∷ [])
static_into_counted_by_three = refl

-- static into counted: the count says 2 (a char)
static_into_counted_by_two : conversion two_and_a_char two_arrays_one_count
    (record_of (listed "a" (num (pos 1) ∷ num (pos 2) ∷ []) ∷ number "m" (pos 2) ∷ [])) 4096
    ≡ converted (record_of (listed "a" (num (pos 1) ∷ num (pos 2) ∷ []) ∷ number "m" (pos 2)
    ∷ listed "b" (num (pos 0) ∷ num (pos 0) ∷ []) ∷ [])) 28
static_into_counted_by_two = refl

abbrev two_inside : Layout
two_inside =
    layout_with Little 4 (type_of "p" 8 (array 2 (integer "a" 4 0) ∷ []) ∷ [])

-- static into counted without a count
static_into_counted_without_count : conversion two_inside two_arrays_one_count
    (record_of (listed "a" (num (pos 1) ∷ num (pos 2) ∷ []) ∷ [])) 4096
    ≡ unfit_at (name "a" ∷ [])
static_into_counted_without_count = refl
