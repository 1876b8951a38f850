-- Numbers of each kind at the edges of the receiver's range.
-- The answers were worked out by hand, and found again by an implementation that shares no code with this one.
use Rattle.std.proofs.Common.{◌≡◌, pos, negsuc, refl, [], ◌∷◌}
use Rattle.evp_base.specs.declared.order.Order.TheVariants.{Little, Big}
use Rattle.evp_format.specs.Conversion.{conversion, converted, unfit_at}
use Rattle.evp_format.specs.Layout.{Layout, layout_with}
use Rattle.evp_format.proofs.Worked.{integer, unsigned, char, boolean, enumeration, type_of, name, number, record_of}

abbrev every_kind : Layout
every_kind =
    layout_with Little 4 (type_of "p" 24 (boolean "b" 4 0 ∷ char "c" 1 4 ∷ integer "i" 8 8 ∷ unsigned "u" 8 16 ∷ [])
    ∷ [])

abbrev b_as_signed_byte : Layout
b_as_signed_byte =
    layout_with Big 4 (type_of "p" 8 (integer "b" 1 0 ∷ []) ∷ [])

-- boolean to a signed byte
boolean_to_signed_byte : conversion every_kind b_as_signed_byte
    (record_of (number "b" (pos 1) ∷ number "c" (pos 200) ∷ number "i" (negsuc 0)
    ∷ number "u" (pos 9223372036854775808) ∷ [])) 8
    ≡ converted (record_of (number "b" (pos 1) ∷ [])) 8
boolean_to_signed_byte = refl

abbrev c_as_signed_byte : Layout
c_as_signed_byte =
    layout_with Big 4 (type_of "p" 8 (integer "c" 1 0 ∷ []) ∷ [])

-- char 200 to a signed byte
char_200_to_signed_byte : conversion every_kind c_as_signed_byte
    (record_of (number "b" (pos 1) ∷ number "c" (pos 200) ∷ number "i" (negsuc 0)
    ∷ number "u" (pos 9223372036854775808) ∷ [])) 8
    ≡ unfit_at (name "c" ∷ [])
char_200_to_signed_byte = refl

abbrev c_as_enumeration : Layout
c_as_enumeration =
    layout_with Big 4 (type_of "p" 8 (enumeration "c" 2 0 ∷ []) ∷ [])

-- char 200 to an enumeration of 2
char_200_to_enumeration : conversion every_kind c_as_enumeration
    (record_of (number "b" (pos 1) ∷ number "c" (pos 200) ∷ number "i" (negsuc 0)
    ∷ number "u" (pos 9223372036854775808) ∷ [])) 8
    ≡ converted (record_of (number "c" (pos 200) ∷ [])) 8
char_200_to_enumeration = refl

abbrev c_as_boolean : Layout
c_as_boolean =
    layout_with Big 4 (type_of "p" 8 (boolean "c" 1 0 ∷ []) ∷ [])

-- char 2 to boolean
char_2_to_boolean : conversion every_kind c_as_boolean
    (record_of (number "b" (pos 1) ∷ number "c" (pos 2) ∷ number "i" (negsuc 0)
    ∷ number "u" (pos 9223372036854775808) ∷ [])) 8
    ≡ unfit_at (name "c" ∷ [])
char_2_to_boolean = refl

abbrev c_as_wide_boolean : Layout
c_as_wide_boolean =
    layout_with Big 4 (type_of "p" 8 (boolean "c" 8 0 ∷ []) ∷ [])

-- char 1 to boolean of 8
char_1_to_wide_boolean : conversion every_kind c_as_wide_boolean
    (record_of (number "b" (pos 1) ∷ number "c" (pos 1) ∷ number "i" (negsuc 0)
    ∷ number "u" (pos 9223372036854775808) ∷ [])) 8
    ≡ converted (record_of (number "c" (pos 1) ∷ [])) 8
char_1_to_wide_boolean = refl

abbrev i_as_boolean : Layout
i_as_boolean =
    layout_with Big 4 (type_of "p" 8 (boolean "i" 8 0 ∷ []) ∷ [])

-- -1 to boolean
minus_one_to_boolean : conversion every_kind i_as_boolean
    (record_of (number "b" (pos 1) ∷ number "c" (pos 200) ∷ number "i" (negsuc 0)
    ∷ number "u" (pos 9223372036854775808) ∷ [])) 8
    ≡ unfit_at (name "i" ∷ [])
minus_one_to_boolean = refl

abbrev i_as_char : Layout
i_as_char =
    layout_with Big 4 (type_of "p" 8 (char "i" 1 0 ∷ []) ∷ [])

-- -1 to char
minus_one_to_char : conversion every_kind i_as_char
    (record_of (number "b" (pos 1) ∷ number "c" (pos 200) ∷ number "i" (negsuc 0)
    ∷ number "u" (pos 9223372036854775808) ∷ [])) 8
    ≡ unfit_at (name "i" ∷ [])
minus_one_to_char = refl

-- 255 to char
char_255_fits : conversion every_kind i_as_char
    (record_of (number "b" (pos 1) ∷ number "c" (pos 200) ∷ number "i" (pos 255)
    ∷ number "u" (pos 9223372036854775808) ∷ [])) 8
    ≡ converted (record_of (number "i" (pos 255) ∷ [])) 8
char_255_fits = refl

-- 256 to char
char_256_does_not : conversion every_kind i_as_char
    (record_of (number "b" (pos 1) ∷ number "c" (pos 200) ∷ number "i" (pos 256)
    ∷ number "u" (pos 9223372036854775808) ∷ [])) 8
    ≡ unfit_at (name "i" ∷ [])
char_256_does_not = refl

abbrev u_as_signed : Layout
u_as_signed =
    layout_with Big 4 (type_of "p" 8 (integer "u" 8 0 ∷ []) ∷ [])

-- 2^63 to signed 8
signed_stops_at_2_63 : conversion every_kind u_as_signed
    (record_of (number "b" (pos 1) ∷ number "c" (pos 200) ∷ number "i" (negsuc 0)
    ∷ number "u" (pos 9223372036854775808) ∷ [])) 8
    ≡ unfit_at (name "u" ∷ [])
signed_stops_at_2_63 = refl

-- 2^63-1 to signed 8
greatest_signed : conversion every_kind u_as_signed
    (record_of (number "b" (pos 1) ∷ number "c" (pos 200) ∷ number "i" (negsuc 0)
    ∷ number "u" (pos 9223372036854775807) ∷ [])) 8
    ≡ converted (record_of (number "u" (pos 9223372036854775807) ∷ [])) 8
greatest_signed = refl

abbrev u_as_unsigned : Layout
u_as_unsigned =
    layout_with Big 4 (type_of "p" 8 (unsigned "u" 8 0 ∷ []) ∷ [])

-- 2^64-1 to unsigned 8
greatest_unsigned : conversion every_kind u_as_unsigned
    (record_of (number "b" (pos 1) ∷ number "c" (pos 200) ∷ number "i" (negsuc 0)
    ∷ number "u" (pos 18446744073709551615) ∷ [])) 8
    ≡ converted (record_of (number "u" (pos 18446744073709551615) ∷ [])) 8
greatest_unsigned = refl

abbrev i_as_wide_enumeration : Layout
i_as_wide_enumeration =
    layout_with Big 4 (type_of "p" 8 (enumeration "i" 8 0 ∷ []) ∷ [])

-- -2^63 to enumeration 8
least_enumeration : conversion every_kind i_as_wide_enumeration
    (record_of (number "b" (pos 1) ∷ number "c" (pos 200) ∷ number "i" (negsuc 9223372036854775807)
    ∷ number "u" (pos 9223372036854775808) ∷ [])) 8
    ≡ converted (record_of (number "i" (negsuc 9223372036854775807) ∷ [])) 8
least_enumeration = refl

abbrev i_as_signed_half : Layout
i_as_signed_half =
    layout_with Big 4 (type_of "p" 8 (integer "i" 2 0 ∷ []) ∷ [])

-- -32769 to integer 2
below_least_half : conversion every_kind i_as_signed_half
    (record_of (number "b" (pos 1) ∷ number "c" (pos 200) ∷ number "i" (negsuc 32768)
    ∷ number "u" (pos 9223372036854775808) ∷ [])) 8
    ≡ unfit_at (name "i" ∷ [])
below_least_half = refl

-- -32768 to integer 2
least_half : conversion every_kind i_as_signed_half
    (record_of (number "b" (pos 1) ∷ number "c" (pos 200) ∷ number "i" (negsuc 32767)
    ∷ number "u" (pos 9223372036854775808) ∷ [])) 8
    ≡ converted (record_of (number "i" (negsuc 32767) ∷ [])) 8
least_half = refl

abbrev i_as_enumeration : Layout
i_as_enumeration =
    layout_with Big 4 (type_of "p" 8 (enumeration "i" 4 0 ∷ []) ∷ [])

-- 2^31 to enumeration 4
enumeration_stops_at_2_31 : conversion every_kind i_as_enumeration
    (record_of (number "b" (pos 1) ∷ number "c" (pos 200) ∷ number "i" (pos 2147483648)
    ∷ number "u" (pos 9223372036854775808) ∷ [])) 8
    ≡ unfit_at (name "i" ∷ [])
enumeration_stops_at_2_31 = refl

abbrev i_as_unsigned : Layout
i_as_unsigned =
    layout_with Big 4 (type_of "p" 8 (unsigned "i" 8 0 ∷ []) ∷ [])

-- -1 to unsigned 8
minus_one_to_unsigned : conversion every_kind i_as_unsigned
    (record_of (number "b" (pos 1) ∷ number "c" (pos 200) ∷ number "i" (negsuc 0)
    ∷ number "u" (pos 9223372036854775808) ∷ [])) 8
    ≡ unfit_at (name "i" ∷ [])
minus_one_to_unsigned = refl
