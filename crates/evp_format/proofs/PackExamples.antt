-- Packed records of small values, worked out by hand.
use Rattle.std.proofs.Common.{◌≡◌, pos, negsuc, refl, [], ◌∷◌, ◌++◌, replicate}
use Rattle.evp_base.specs.declared.order.Order.TheVariants.{Little, Big}
use Rattle.evp_format.specs.Datum.{num, null, text}
use Rattle.evp_format.specs.Layout.{Layout, layout_with}
use Rattle.evp_format.specs.Packing.{pack, packed_size}
use Rattle.evp_format.proofs.Worked.{integer, char, string, array, counted, type_of, number, absent, written, listed, record_of}

-- two strings, a counted array and its count
abbrev mixed : Layout
mixed = layout_with Little 4
    (type_of "r" 16 (string "s" 4 0 ∷ string "t" 4 4 ∷ counted 3 (integer "l" 2 8) ∷ integer "n" 4 12 ∷ []) ∷ [])

-- a text has a block of its bytes and a zero; null and an empty list have pointer 0 and no block
null_and_an_empty_list : pack mixed (record_of (written "s" "ab" ∷ absent "t" ∷ listed "l" [] ∷ number "n" (pos 0) ∷ []))
    ≡ 16 ∷ 0 ∷ 0 ∷ 0 ∷ replicate 12 0 ++ 97 ∷ 98 ∷ 0 ∷ []
null_and_an_empty_list = refl

their_size : packed_size mixed (record_of (written "s" "ab" ∷ absent "t" ∷ listed "l" [] ∷ number "n" (pos 0) ∷ [])) ≡ 19
their_size = refl

-- each block at the next multiple of 8, with zeros between; an empty text has one byte
blocks_in_order : pack mixed
    (record_of (written "s" "" ∷ written "t" "c" ∷ listed "l" (num (pos 1) ∷ num (negsuc 1) ∷ []) ∷ number "n" (pos 2) ∷ []))
    ≡ 16 ∷ 0 ∷ 0 ∷ 0 ∷ 24 ∷ 0 ∷ 0 ∷ 0 ∷ 32 ∷ 0 ∷ 0 ∷ 0 ∷ 2 ∷ 0 ∷ 0 ∷ 0
    ∷ 0 ∷ replicate 7 0 ++ 99 ∷ 0 ∷ replicate 6 0 ++ 1 ∷ 0 ∷ 254 ∷ 255 ∷ []
blocks_in_order = refl

-- a list's own block stands before those of its elements
texts_behind_their_list : pack
    (layout_with Little 4 (type_of "r" 8 (counted 1 (string "l" 4 0) ∷ integer "n" 4 4 ∷ []) ∷ []))
    (record_of (listed "l" (text (97 ∷ []) ∷ null ∷ []) ∷ number "n" (pos 2) ∷ []))
    ≡ 8 ∷ 0 ∷ 0 ∷ 0 ∷ 2 ∷ 0 ∷ 0 ∷ 0 ∷ 16 ∷ 0 ∷ 0 ∷ 0 ∷ 0 ∷ 0 ∷ 0 ∷ 0 ∷ 97 ∷ 0 ∷ []
texts_behind_their_list = refl

-- the other byte order and size of pointers
a_big_pointer : pack (layout_with Big 8 (type_of "r" 8 (string "s" 8 0 ∷ []) ∷ [])) (record_of (written "s" "x" ∷ []))
    ≡ 0 ∷ 0 ∷ 0 ∷ 0 ∷ 0 ∷ 0 ∷ 0 ∷ 8 ∷ 120 ∷ 0 ∷ []
a_big_pointer = refl

-- an array inside the record, and padding behind the last field
an_array_inside : pack (layout_with Little 4 (type_of "r" 8 (array 2 (integer "a" 2 0) ∷ char "c" 1 4 ∷ []) ∷ []))
    (record_of (listed "a" (num (pos 1) ∷ num (pos 2) ∷ []) ∷ number "c" (pos 3) ∷ []))
    ≡ 1 ∷ 0 ∷ 2 ∷ 0 ∷ 3 ∷ 0 ∷ 0 ∷ 0 ∷ []
an_array_inside = refl
