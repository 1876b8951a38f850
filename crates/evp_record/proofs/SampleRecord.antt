-- The records of the tests, read, viewed and measured by computation, and what readers ask of them.
use Rattle.std.proofs.Common.{◌≡◌, ℕ, ◌<◌, ◌^◌, ◌≤ℤ◌, ℤ, List, Option, Some, pos, negsuc, arith, refl, sym, ap, ◌∙◌, Ok, lit<}
use Rattle.std.proofs.lemmas.Int.{ints}
use Rattle.std.specs.Fmt.{digits}
use Rattle.evp_base.specs.declared.kind.Kind.TheVariants.{Int}
use Rattle.evp_base.specs.Numbers.{InRange}
use Rattle.evp_format.specs.Drafts.{shape_in, counted_fields, without_count_default, within_nesting, without_overlap}
use Rattle.evp_format.specs.TypeText.{word_of, fixed_of, inside_of, shape_of, base_of, type_text_of}
use Rattle.evp_format.specs.Reading.{number_at, signed_at, text_behind, text_at, field_name_at, field_type_at, field_size_at}
use Rattle.evp_format.specs.Reading.{field_offset_at, default_at, field_at, fields_at, type_name_at, type_length_at, field_count_at}
use Rattle.evp_format.specs.Reading.{whole_type, type_at, types_at, magic_at, order_at, pointer_at, type_count_at, with_default, layout_at}
use Rattle.evp_format.specs.Reading.{layout_of}
use Rattle.evp_format.specs.Parts.{new_type_name, new_field_count, new_field_name, allowed_size, allowed_default, ended_type}
use Rattle.evp_format.specs.Packing.{packed_size}
use Rattle.evp_format.specs.Class.{Content, Class, array, class_at, nested_at, IsArray}
use Rattle.evp_format.specs.Layout.{Layout}
use Rattle.evp_format.specs.Typed.{IsOf}
use Rattle.evp_format.specs.Viewing.{view}
use Rattle.evp_record.specs.declared.spot.Spot.{Spot}
use Rattle.evp_record.specs.Parts.{IsBelow}
use Rattle.evp_record.specs.Record.{Record, record_of}
use Rattle.evp_record.specs.Spots.{root_spot}
use Rattle.evp_record.specs.Samples.{list_description, list_layout, list_bytes, list_value, pairs_description, pairs_layout}
use Rattle.evp_record.specs.Samples.{words_description, words_layout}

pub list_is_read : layout_of list_description ≡ Ok list_layout
unfolding digits allowed_default allowed_size ended_type new_field_count new_field_name new_type_name word_of fixed_of inside_of shape_of
    base_of type_text_of shape_in counted_fields without_count_default within_nesting without_overlap number_at signed_at text_behind
    text_at field_name_at field_type_at field_size_at field_offset_at default_at field_at fields_at type_name_at type_length_at
    field_count_at whole_type type_at types_at magic_at order_at pointer_at type_count_at with_default layout_at layout_of
list_is_read = refl

pub pairs_are_read : layout_of pairs_description ≡ Ok pairs_layout
unfolding digits allowed_default allowed_size ended_type new_field_count new_field_name new_type_name word_of fixed_of inside_of shape_of
    base_of type_text_of shape_in counted_fields without_count_default within_nesting without_overlap number_at signed_at text_behind
    text_at field_name_at field_type_at field_size_at field_offset_at default_at field_at fields_at type_name_at type_length_at
    field_count_at whole_type type_at types_at magic_at order_at pointer_at type_count_at with_default layout_at layout_of
pairs_are_read = refl

pub words_are_read : layout_of words_description ≡ Ok words_layout
unfolding digits allowed_default allowed_size ended_type new_field_count new_field_name new_type_name word_of fixed_of inside_of shape_of
    base_of type_text_of shape_in counted_fields without_count_default within_nesting without_overlap number_at signed_at text_behind
    text_at field_name_at field_type_at field_size_at field_offset_at default_at field_at fields_at type_name_at type_length_at
    field_count_at whole_type type_at types_at magic_at order_at pointer_at type_count_at with_default layout_at layout_of
words_are_read = refl

pub list_is_viewed : view list_layout list_bytes ≡ Ok list_value
list_is_viewed = refl

pub list_is_small : packed_size list_layout list_value < 2 ^ 32
list_is_small = lit< tt

-- a number of four bytes
in_range : (n : ℤ) → (negsuc 2147483647 ≤ℤ n) × (n ≤ℤ pos 2147483647) → InRange Int 4 n
in_range n bounds = bounds

pub list_is_of_format : IsOf list_layout list_value
list_is_of_format =
    let five = in_range (pos 5) (omega (arith, ints), omega (arith, ints)) in
    let six = in_range (pos 6) (omega (arith, ints), omega (arith, ints)) in
    let two = in_range (pos 2) (omega (arith, ints), omega (arith, ints)) in
    (refl, (refl, (five, (six, tt))), (refl, two, tt))

-- a description that is the sample's is read as the sample's format
pub format_is : (description sample : List ℕ) (format layout : Layout) → layout_of sample ≡ Ok layout → description ≡ sample
    → layout_of description ≡ Ok format
    → format ≡ layout
format_is description sample format layout is_read same read = let both = sym read ∙ ap layout_of same ∙ is_read in cc

-- the class of a field of a sample's record itself
pub root_class : (sample : List ℕ) (layout : Layout) → layout_of sample ≡ Ok layout
    → (description : List ℕ) (format : Layout) (bytes : List ℕ)
    (held : Record) (spot : Spot) (index : ℕ) (class : Option Class) → description ≡ sample → layout_of description ≡ Ok format
    → held ≡ record_of format bytes → spot ≡ root_spot held.layout → class_at layout (root_spot layout).type_number index ≡ class
    → class_at held.layout spot.type_number index ≡ class
root_class sample layout is_read description format bytes held spot index class same read is root there =
    let layout_is : held.layout ≡ layout =
    ap (λ (h : Record). h.layout) is ∙ format_is description sample format layout is_read same read in
    ap (λ (s : Spot). class_at held.layout s.type_number index) root
    ∙ ap (λ (l : Layout). class_at l (root_spot l).type_number index) layout_is ∙ there

-- and of a record inside, of the type that a field of the sample's record nests
pub nested_class : (sample : List ℕ) (layout : Layout) → layout_of sample ≡ Ok layout → (description : List ℕ) (format : Layout)
    (bytes : List ℕ) (held : Record) (outer spot : Spot) (field type_number index : ℕ) (class : Option Class) → description ≡ sample
    → layout_of description ≡ Ok format → held ≡ record_of format bytes → outer ≡ root_spot held.layout
    → nested_at held.layout outer.type_number field ≡ Some spot.type_number
    → nested_at layout (root_spot layout).type_number field ≡ Some type_number → class_at layout type_number index ≡ class
    → class_at held.layout spot.type_number index ≡ class
nested_class sample layout is_read description format bytes held outer spot field type_number index class same read is root inside there
    here =
    let layout_is : held.layout ≡ layout =
    ap (λ (h : Record). h.layout) is ∙ format_is description sample format layout is_read same read in
    let both : Some spot.type_number ≡ Some type_number =
    sym inside ∙ ap (λ (s : Spot). nested_at held.layout s.type_number field) root
    ∙ ap (λ (l : Layout). nested_at l (root_spot l).type_number field) layout_is ∙ there in
    let number : spot.type_number ≡ type_number = cc in
    ap (λ (n : ℕ). class_at held.layout n index) number ∙ ap (λ (l : Layout). class_at l type_number index) layout_is ∙ here

-- an index below the length
pub below_length : (found : Option ℕ) (n k : ℕ) → found ≡ Some n → k < n → IsBelow k found
below_length found n k is below = rw is below

-- a class that is an array's
pub is_array : (class : Option Class) (content : Content) → class ≡ Some (array content) → IsArray class
is_array class content is = rw is tt
