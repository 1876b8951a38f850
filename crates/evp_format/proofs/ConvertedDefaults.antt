-- Fields and records without a partner.
-- The answers were worked out by hand, and found again by an implementation that shares no code with this one.
use Rattle.std.proofs.Common.{◌≡◌, pos, negsuc, refl, [], ◌∷◌}
use Rattle.evp_base.specs.declared.order.Order.TheVariants.{Little, Big}
use Rattle.evp_format.specs.Conversion.{conversion, converted, unfit_at, large_at}
use Rattle.evp_format.specs.Datum.{null}
use Rattle.evp_format.specs.Layout.{Layout, layout_with}
use Rattle.evp_format.proofs.Worked.{integer, unsigned, enumeration, string, nested, array, counted, stated, type_of, name, number, absent}
use Rattle.evp_format.proofs.Worked.{listed, inside, record_of}

abbrev count_alone : Layout
count_alone =
    layout_with Little 8 (type_of "p" 8 (integer "n" 8 0 ∷ []) ∷ [])

abbrev list_with_a_new_field : Layout
list_with_a_new_field =
    layout_with Little 4 (type_of "e" 12 (stated (pos 7) (integer "z" 4 0) ∷ string "s" 4 4 ∷ integer "k" 1 8 ∷ [])
    ∷ type_of "r" 8 (counted 1 (nested "p" 0 12 0) ∷ integer "n" 4 4 ∷ []) ∷ [])

-- records of defaults by the receiver count: 8+24
records_of_defaults_by_count : conversion count_alone list_with_a_new_field (record_of (number "n" (pos 2) ∷ [])) 32
    ≡ converted (record_of (listed "p" (record_of (number "z" (pos 7) ∷ absent "s" ∷ number "k" (pos 0) ∷ [])
    ∷ record_of (number "z" (pos 7) ∷ absent "s" ∷ number "k" (pos 0) ∷ []) ∷ []) ∷ number "n" (pos 2) ∷ [])) 32
records_of_defaults_by_count = refl

-- their block
their_block_one_below : conversion count_alone list_with_a_new_field (record_of (number "n" (pos 2) ∷ [])) 31
    ≡ large_at (name "p" ∷ [])
their_block_one_below = refl

-- great count
great_count_is_large : conversion count_alone list_with_a_new_field
    (record_of (number "n" (pos 2147483647) ∷ [])) 262144
    ≡ large_at (name "p" ∷ [])
great_count_is_large = refl

-- count that the receiver cannot hold
count_that_cannot_be_held : conversion count_alone list_with_a_new_field
    (record_of (number "n" (pos 2147483648) ∷ [])) 262144
    ≡ unfit_at (name "n" ∷ [])
count_that_cannot_be_held = refl

abbrev nested_twice : Layout
nested_twice =
    layout_with Little 4 (type_of "a" 4 (integer "k" 4 0 ∷ []) ∷ type_of "b" 4 (nested "q" 0 4 0 ∷ [])
    ∷ type_of "c" 4 (nested "p" 1 4 0 ∷ []) ∷ [])

abbrev nested_once : Layout
nested_once =
    layout_with Big 4 (type_of "b" 4 (stated (negsuc 8) (integer "k" 4 0) ∷ []) ∷ type_of "c" 8 (nested "p" 0 4 4
    ∷ []) ∷ [])

-- p.q.k is not p.k: default
deeper_name_is_no_partner : conversion nested_twice nested_once
    (record_of (inside "p" (inside "q" (number "k" (pos 5) ∷ []) ∷ []) ∷ [])) 8
    ≡ converted (record_of (inside "p" (number "k" (negsuc 8) ∷ []) ∷ [])) 8
deeper_name_is_no_partner = refl

-- and back: p.q is without partner, a record of defaults
record_without_partner_inside : conversion nested_once nested_twice
    (record_of (inside "p" (number "k" (pos 5) ∷ []) ∷ [])) 4
    ≡ converted (record_of (inside "p" (inside "q" (number "k" (pos 0) ∷ []) ∷ []) ∷ [])) 4
record_without_partner_inside = refl

abbrev defaults_at_every_depth : Layout
defaults_at_every_depth =
    layout_with Big 4 (type_of "a" 12 (stated (negsuc 8) (integer "k" 4 0) ∷ counted 2 (integer "l" 4 4)
    ∷ integer "n" 4 8 ∷ []) ∷ type_of "b" 28 (nested "q" 0 12 0 ∷ array 1 (nested "r" 0 12 12) ∷ string "t" 4 24
    ∷ []) ∷ type_of "c" 56 (array 2 (nested "p" 1 28 0) ∷ []) ∷ [])

-- no partner at all: defaults at every depth
defaults_at_each_depth : conversion count_alone defaults_at_every_depth (record_of (number "n" (pos 5) ∷ [])) 56
    ≡ converted (record_of (listed "p" (record_of (inside "q" (number "k" (negsuc 8) ∷ listed "l" []
    ∷ number "n" (pos 0) ∷ []) ∷ listed "r" (record_of (number "k" (negsuc 8) ∷ listed "l" []
    ∷ number "n" (pos 0) ∷ []) ∷ []) ∷ absent "t" ∷ []) ∷ record_of (inside "q" (number "k" (negsuc 8)
    ∷ listed "l" [] ∷ number "n" (pos 0) ∷ []) ∷ listed "r" (record_of (number "k" (negsuc 8) ∷ listed "l" []
    ∷ number "n" (pos 0) ∷ []) ∷ []) ∷ absent "t" ∷ []) ∷ []) ∷ [])) 56
defaults_at_each_depth = refl

abbrev inner_count : Layout
inner_count =
    layout_with Big 4 (type_of "a" 12 (stated (negsuc 8) (integer "k" 4 0) ∷ counted 2 (integer "l" 4 4)
    ∷ integer "n" 4 8 ∷ []) ∷ type_of "c" 12 (nested "p" 0 12 0 ∷ []) ∷ [])

-- the outer n is no partner of the inner n
outer_count_is_no_inner_count : conversion count_alone inner_count (record_of (number "n" (pos 5) ∷ [])) 12
    ≡ converted (record_of (inside "p" (number "k" (negsuc 8) ∷ listed "l" [] ∷ number "n" (pos 0) ∷ []) ∷ [])) 12
outer_count_is_no_inner_count = refl

abbrev strings_and_a_default : Layout
strings_and_a_default =
    layout_with Little 4 (type_of "p" 12 (array 2 (string "s" 4 0) ∷ stated (pos 4294967295) (unsigned "d" 4 8) ∷ [])
    ∷ [])

-- texts without partner are null, default at the top of its range
texts_without_partner_are_null : conversion count_alone strings_and_a_default (record_of (number "n" (pos 1) ∷ [])) 12
    ≡ converted (record_of (listed "s" (null ∷ null ∷ []) ∷ number "d" (pos 4294967295) ∷ [])) 12
texts_without_partner_are_null = refl

abbrev text_before_count : Layout
text_before_count =
    layout_with Little 4 (type_of "p" 12 (string "s" 4 0 ∷ integer "n" 8 4 ∷ []) ∷ [])

-- a text without a partner is null and takes no block
text_without_partner_takes_no_block : conversion count_alone text_before_count (record_of (number "n" (pos 1) ∷ [])) 12
    ≡ converted (record_of (absent "s" ∷ number "n" (pos 1) ∷ [])) 12
text_without_partner_takes_no_block = refl

abbrev record_of_defaults : Layout
record_of_defaults =
    layout_with Little 4 (type_of "e" 12 (string "s" 4 0 ∷ stated (negsuc 32767) (enumeration "d" 2 4)
    ∷ array 1 (string "u" 4 8) ∷ []) ∷ type_of "r" 16 (nested "p" 0 12 0 ∷ integer "n" 1 12 ∷ []) ∷ [])

-- a nested record without a partner: its text is null, its count list empty
record_without_partner : conversion count_alone record_of_defaults (record_of (number "n" (pos 127) ∷ [])) 16
    ≡ converted (record_of (inside "p" (absent "s" ∷ number "d" (negsuc 32767) ∷ listed "u" (null ∷ []) ∷ [])
    ∷ number "n" (pos 127) ∷ [])) 16
record_without_partner = refl
