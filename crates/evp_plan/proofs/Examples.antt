-- What the steps for small pairs of formats find and write, whose answers were worked out by hand.
use Rattle.std.proofs.Common.{◌≡◌, ℕ, ℤ, pos, negsuc, refl, List, [], ◌∷◌, length}
use Rattle.evp_base.specs.declared.kind.Kind.TheVariants.{Int, Unsigned, Boolean}
use Rattle.evp_base.specs.declared.order.Order.{Order}
use Rattle.evp_base.specs.declared.order.Order.TheVariants.{Little, Big}
use Rattle.evp_format.specs.declared.field.Base.{Base}
use Rattle.evp_format.specs.declared.field.Base.TheVariants.{Number, Text, Nested}
use Rattle.evp_format.specs.declared.field.Field.{Field}
use Rattle.evp_format.specs.declared.field.Shape.{Shape}
use Rattle.evp_format.specs.declared.field.Shape.TheVariants.{One, Fixed, Counted}
use Rattle.evp_format.specs.declared.place.PlaceStep.TheVariants.{At, Nth}
use Rattle.evp_format.specs.declared.record_type.RecordType.{RecordType}
use Rattle.evp_format.specs.Converting.{Made, made, unfit, large}
use Rattle.evp_format.specs.Layout.{Layout}
use Rattle.evp_format.specs.Packing.{machine_of}
use Rattle.evp_format.specs.Tree.{Tree, tree, Branches, root_of, length_of}
use Rattle.evp_format.specs.Viewing.{image_of}
use Rattle.evp_plan.specs.Matching.{compiled_tree}
use Rattle.evp_plan.specs.Measuring.{measured}
use Rattle.evp_plan.specs.Moving.{moved}
use Rattle.evp_plan.specs.Planned.{laid_out}
use Rattle.evp_plan.specs.Program.{Program}

abbrev field_of : ℕ → Base → Shape → ℕ → ℕ → ℤ → Field
field_of letter base shape size offset fallback = record {
  name = letter ∷ [];
  base = base;
  shape = shape;
  size = size;
  offset = offset;
  fallback = fallback;
}

abbrev int_field : ℕ → ℕ → ℕ → Field
int_field letter size offset = field_of letter (Number Int) One size offset (pos 0)

abbrev type_of : ℕ → List Field → RecordType
type_of length fields = record { name = 112 ∷ []; length = length; fields = fields }

abbrev layout_of : Order → ℕ → List RecordType → Layout
layout_of order pointer types = record { order = order; pointer = pointer; types = types }

abbrev branches_in : Tree → Branches
branches_in (tree length branches) = branches

-- the program for the records of two formats
abbrev program_for : Layout → Layout → Program
program_for from to = compiled_tree (branches_in (root_of from)) (root_of to)

abbrev found : Layout → Layout → ℕ → List ℕ → Made (Unit {0})
found from to limit bytes = measured limit (image_of from bytes) (program_for from to) [] 0 (length_of (root_of to))

abbrev written : Layout → Layout → List ℕ → List ℕ
written from to bytes = laid_out (moved (image_of from bytes) (machine_of to) (program_for from to) 0 0 (length_of (root_of to)))

-- one number of four bytes, and of eight
abbrev small : Layout
small = layout_of Little 4 (type_of 4 (int_field 120 4 0 ∷ []) ∷ [])

abbrev unsigned_wide : Layout
unsigned_wide = layout_of Big 8 (type_of 8 (field_of 120 (Number Unsigned) One 8 0 (pos 0) ∷ []) ∷ [])

abbrev wide : Layout
wide = layout_of Little 8 (type_of 8 (int_field 120 8 0 ∷ []) ∷ [])

minus_one_is_not_unsigned : found small unsigned_wide 4096 (255 ∷ 255 ∷ 255 ∷ 255 ∷ []) ≡ unfit (At 0 ∷ [])
minus_one_is_not_unsigned = refl

greatest_signed_fits : found unsigned_wide wide 4096 (127 ∷ 255 ∷ 255 ∷ 255 ∷ 255 ∷ 255 ∷ 255 ∷ 255 ∷ []) ≡ made tt 8
greatest_signed_fits = refl

greatest_signed_is_swapped : written unsigned_wide wide (127 ∷ 255 ∷ 255 ∷ 255 ∷ 255 ∷ 255 ∷ 255 ∷ 255 ∷ []) ≡ 255 ∷ 255 ∷ 255 ∷ 255 ∷ 255
    ∷ 255 ∷ 255 ∷ 127 ∷ []
greatest_signed_is_swapped = refl

next_number_does_not_fit : found unsigned_wide wide 4096 (128 ∷ 0 ∷ 0 ∷ 0 ∷ 0 ∷ 0 ∷ 0 ∷ 0 ∷ []) ≡ unfit (At 0 ∷ [])
next_number_does_not_fit = refl

-- fields are matched by name, and one without a partner is 0

names_match : written (layout_of Little 8 (type_of 8 (int_field 120 4 0 ∷ int_field 122 4 4 ∷ []) ∷ []))
    (layout_of Little 4 (type_of 8 (int_field 121 4 0 ∷ int_field 120 2 4 ∷ []) ∷ []))
    (7 ∷ 0 ∷ 0 ∷ 0 ∷ 9 ∷ 0 ∷ 0 ∷ 0 ∷ []) ≡ 0 ∷ 0 ∷ 0 ∷ 0 ∷ 7 ∷ 0 ∷ 0 ∷ 0 ∷ []
names_match = refl

-- an array before its count
abbrev counted : Layout
counted = layout_of Little 4 (type_of 8 (field_of 97 (Number Int) (Counted 1) 4 0 (pos 0) ∷ int_field 110 4 4 ∷ []) ∷ [])

abbrev counted_wide : Layout
counted_wide = layout_of Big 4 (type_of 8 (int_field 110 4 0 ∷ field_of 97 (Number Int) (Counted 0) 8 4 (pos 0) ∷ []) ∷ [])

abbrev five_and_six : List ℕ
five_and_six = 8 ∷ 0 ∷ 0 ∷ 0 ∷ 2 ∷ 0 ∷ 0 ∷ 0 ∷ 5 ∷ 0 ∷ 0 ∷ 0 ∷ 6 ∷ 0 ∷ 0 ∷ 0 ∷ []

counted_has_a_block : found counted counted_wide 24 five_and_six ≡ made tt 24
counted_has_a_block = refl

counted_is_large : found counted counted_wide 23 five_and_six ≡ large (At 1 ∷ [])
counted_is_large = refl

counted_widens : written counted counted_wide five_and_six
    ≡ 0 ∷ 0 ∷ 0 ∷ 2 ∷ 0 ∷ 0 ∷ 0 ∷ 8 ∷ 0 ∷ 0 ∷ 0 ∷ 0 ∷ 0 ∷ 0 ∷ 0 ∷ 5 ∷ 0 ∷ 0 ∷ 0 ∷ 0 ∷ 0 ∷ 0 ∷ 0 ∷ 6 ∷ []
counted_widens = refl

two_are_not_three : found counted (layout_of Little 4 (type_of 12 (field_of 97 (Number Int) (Fixed 3) 4 0 (pos 0) ∷ []) ∷ [])) 4096
    five_and_six ≡ unfit (At 0 ∷ [])
two_are_not_three = refl

-- an array without a partner has as many zeros as its count says
abbrev count_alone : Layout
count_alone = layout_of Little 8 (type_of 8 (int_field 110 8 0 ∷ []) ∷ [])

abbrev zeros_by_count : Layout
zeros_by_count = layout_of Little 4 (type_of 12 (int_field 110 8 0 ∷ field_of 98 (Number Int) (Counted 0) 4 8 (pos 0) ∷ []) ∷ [])

three_zeros : found count_alone zeros_by_count 28 (3 ∷ 0 ∷ 0 ∷ 0 ∷ 0 ∷ 0 ∷ 0 ∷ 0 ∷ []) ≡ made tt 28
three_zeros = refl

three_zeros_are_written : written count_alone zeros_by_count (3 ∷ 0 ∷ 0 ∷ 0 ∷ 0 ∷ 0 ∷ 0 ∷ 0 ∷ [])
    ≡ 3 ∷ 0 ∷ 0 ∷ 0 ∷ 0 ∷ 0 ∷ 0 ∷ 0 ∷ 16 ∷ 0 ∷ 0 ∷ 0 ∷ 0 ∷ 0 ∷ 0 ∷ 0 ∷ 0 ∷ 0 ∷ 0 ∷ 0 ∷ 0 ∷ 0 ∷ 0 ∷ 0 ∷ 0 ∷ 0 ∷ 0 ∷ 0 ∷ []
three_zeros_are_written = refl

three_zeros_are_large : found count_alone zeros_by_count 27 (3 ∷ 0 ∷ 0 ∷ 0 ∷ 0 ∷ 0 ∷ 0 ∷ 0 ∷ []) ≡ large (At 1 ∷ [])
three_zeros_are_large = refl

negative_count_fits_no_list : found count_alone zeros_by_count 4096 (255 ∷ 255 ∷ 255 ∷ 255 ∷ 255 ∷ 255 ∷ 255 ∷ 255 ∷ []) ≡ unfit (At 1 ∷ [])
negative_count_fits_no_list = refl

great_count_is_large : found count_alone zeros_by_count 4096 (0 ∷ 0 ∷ 0 ∷ 0 ∷ 0 ∷ 1 ∷ 0 ∷ 0 ∷ []) ≡ large (At 1 ∷ [])
great_count_is_large = refl

-- records in a static array, each with a text
abbrev pairs : ℕ → Layout
pairs size =
    layout_of Little 8
    (type_of 16 (int_field 107 size 0 ∷ field_of 115 Text One 8 8 (pos 0) ∷ [])
    ∷ type_of 32 (field_of 112 (Nested 0) (Fixed 2) 16 0 (pos 0) ∷ []) ∷ [])

abbrev two_pairs : ℕ → List ℕ
two_pairs second =
    5 ∷ 0 ∷ 0 ∷ 0 ∷ 0 ∷ 0 ∷ 0 ∷ 0 ∷ 0 ∷ 0 ∷ 0 ∷ 0 ∷ 0 ∷ 0 ∷ 0 ∷ 0 ∷ 44 ∷ second ∷ 0 ∷ 0 ∷ 0 ∷ 0 ∷ 0 ∷ 0 ∷ 32 ∷ 0 ∷ 0 ∷ 0 ∷ 0 ∷ 0 ∷ 0 ∷ 0
    ∷ 97 ∷ 0 ∷ []

number_inside_is_unfit : found (pairs 8) (pairs 1) 4096 (two_pairs 1) ≡ unfit (At 0 ∷ Nth 1 ∷ At 0 ∷ [])
number_inside_is_unfit = refl

numbers_inside_fit : found (pairs 8) (pairs 1) 34 (two_pairs 0) ≡ made tt 34
numbers_inside_fit = refl

text_inside_is_large : found (pairs 8) (pairs 1) 33 (two_pairs 0) ≡ large (At 0 ∷ Nth 1 ∷ At 1 ∷ [])
text_inside_is_large = refl

pairs_are_written : written (pairs 8) (pairs 1) (two_pairs 0) ≡ two_pairs 0
pairs_are_written = refl

-- records of defaults
abbrev five_twice : Layout
five_twice = layout_of Little 4 (type_of 4 (field_of 107 (Number Int) One 4 0 (pos 5) ∷ [])
    ∷ type_of 8 (field_of 112 (Nested 0) (Fixed 2) 4 0 (pos 0) ∷ []) ∷ [])

defaults_in_records : written small five_twice (7 ∷ 0 ∷ 0 ∷ 0 ∷ []) ≡ 5 ∷ 0 ∷ 0 ∷ 0 ∷ 5 ∷ 0 ∷ 0 ∷ 0 ∷ []
defaults_in_records = refl

-- a default of -1 before a number that widens
stated_default_is_written : written small
    (layout_of Big 8 (type_of 16 (field_of 121 (Number Int) One 4 0 (negsuc 0) ∷ int_field 120 8 8 ∷ []) ∷ [])) (7 ∷ 0 ∷ 0 ∷ 0 ∷ [])
    ≡ 255 ∷ 255 ∷ 255 ∷ 255 ∷ 0 ∷ 0 ∷ 0 ∷ 0 ∷ 0 ∷ 0 ∷ 0 ∷ 0 ∷ 0 ∷ 0 ∷ 0 ∷ 7 ∷ []
stated_default_is_written = refl

-- a boolean is stored as 0 or 1
truth_is_one : written (layout_of Little 4 (type_of 2 (field_of 98 (Number Boolean) One 2 0 (pos 0) ∷ []) ∷ []))
    (layout_of Little 4 (type_of 2 (field_of 98 (Number Boolean) One 2 0 (pos 0) ∷ []) ∷ [])) (2 ∷ 0 ∷ [])
    ≡ 1 ∷ 0 ∷ []
truth_is_one = refl
