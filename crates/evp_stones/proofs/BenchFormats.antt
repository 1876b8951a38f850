-- The formats and sources of the generator's document.
use Rattle.std.proofs.Common.{◌≡◌, ℕ, false, true, not, nat_le, List, [], ◌∷◌, ◌++◌, map, take, codes, Some, Ok, refl, ap}
use Rattle.std.specs.Fmt.{digits}
use Rattle.evp_base.specs.declared.step.Step.TheVariants.{Index}
use Rattle.evp_format.specs.Drafts.{shape_in, counted_fields, without_count_default, within_nesting}
use Rattle.evp_format.specs.Layout.{Layout}
use Rattle.evp_format.specs.Parts.{new_type_name, new_field_count, new_field_name, allowed_size}
use Rattle.evp_format.specs.Parts.{allowed_default, ended_type}
use Rattle.evp_format.specs.TypeText.{word_of, fixed_of, inside_of, shape_of, base_of, type_text_of}
use Rattle.evp_gen.specs.Formats.{wide_value, calc_value, short_value, full_value, tight_value, formats_value}
use Rattle.evp_gen.specs.Document.{sources_value}
use Rattle.evp_gen.specs.Senders.{declared_field}
use Rattle.evp_job.specs.Formats.{FormatText, format_text, format_in, profile_in, Named}
use Rattle.evp_job.specs.Formats.{named_with, is_among, laid, record_length, known_format}
use Rattle.evp_job.specs.Formats.{new_format, next_format, formats_in}
use Rattle.evp_job.specs.Forms.{whole_number, number_within, text_in, name_in, list_in, list_within, object_in, no_others}
use Rattle.evp_job.specs.Sources.{file_name_in, source_in, next_source, sources_in}
use Rattle.evp_job.specs.Types.{field_values, field_in, fields_in, type_in, types_in}
use Rattle.evp_profile.specs.declared.profile.Profile.TheVariants.{Le64, Le32, Be64, Be32}
use Rattle.evp_profile.specs.Declarations.{DeclaredField, DeclaredType}
use Rattle.evp_profile.specs.LayingOut.{stated_field, stated_fields, within_length, laid_type}
use Rattle.evp_profile.specs.LayingOut.{laid_types, type_count, by_profile}
use Rattle.serde_json.specs.Data.{Data}
use Rattle.evp_stones.specs.BenchJob.{wide, calc, short, full, tight, bench_names, bench_layouts, bench_sources}
use Rattle.evp_stones.proofs.BenchSteps.{then_is, passes, under_is, from_more}

-- ---- what the formats say

abbrev declared : List ℕ → List DeclaredField → List DeclaredType
declared name fields = record { name = name; fields = fields } ∷ []

abbrev number_of : List ℕ → ℕ → DeclaredField
number_of name size = declared_field name (codes "integer") size

abbrev count_of : List ℕ → ℕ → DeclaredField
count_of name size = declared_field name (codes "unsigned integer") size

abbrev tag : DeclaredField
tag = declared_field (codes "tag") (codes "string") 0

abbrev wide_text : FormatText
wide_text = format_text (codes "wide") Be64 (declared (codes "wide")
    (number_of (codes "x") 8 ∷ count_of (codes "id") 8 ∷ tag ∷ number_of (codes "n") 8
    ∷ declared_field (codes "v") (codes "integer[n]") 8 ∷ []))

abbrev calc_text : FormatText
calc_text = format_text (codes "calc") Le64 (declared (codes "calc")
    (number_of (codes "y") 8 ∷ count_of (codes "id") 8 ∷ number_of (codes "x") 8 ∷ []))

abbrev short_text : FormatText
short_text = format_text (codes "short") Le32 (declared (codes "short")
    (number_of (codes "x") 2 ∷ tag ∷ count_of (codes "extra") 4 ∷ []))

abbrev full_text : FormatText
full_text = format_text (codes "full") Be32 (declared (codes "full")
    (number_of (codes "y") 4 ∷ count_of (codes "id") 4 ∷ []))

abbrev tight_text : FormatText
tight_text = format_text (codes "tight") Le64 (declared (codes "tight")
    (number_of (codes "y") 2 ∷ count_of (codes "id") 2 ∷ []))

wide_said : format_in wide_value ≡ Ok wide_text
unfolding whole_number number_within text_in name_in list_in object_in no_others field_values field_in
    fields_in type_in types_in profile_in format_in
wide_said = refl

calc_said : format_in calc_value ≡ Ok calc_text
unfolding whole_number number_within text_in name_in list_in object_in no_others field_values field_in
    fields_in type_in types_in profile_in format_in
calc_said = refl

short_said : format_in short_value ≡ Ok short_text
unfolding whole_number number_within text_in name_in list_in object_in no_others field_values field_in
    fields_in type_in types_in profile_in format_in
short_said = refl

full_said : format_in full_value ≡ Ok full_text
unfolding whole_number number_within text_in name_in list_in object_in no_others field_values field_in
    fields_in type_in types_in profile_in format_in
full_said = refl

tight_said : format_in tight_value ≡ Ok tight_text
unfolding whole_number number_within text_in name_in list_in object_in no_others field_values field_in
    fields_in type_in types_in profile_in format_in
tight_said = refl

-- ---- how they are laid out

wide_laid : by_profile wide_text.profile wide_text.types ≡ Ok wide
unfolding digits word_of fixed_of inside_of shape_of base_of type_text_of shape_in counted_fields
    without_count_default within_nesting new_type_name new_field_count new_field_name allowed_size allowed_default ended_type
    stated_field stated_fields within_length laid_type laid_types type_count by_profile
wide_laid = refl

calc_laid : by_profile calc_text.profile calc_text.types ≡ Ok calc
unfolding digits word_of fixed_of inside_of shape_of base_of type_text_of shape_in counted_fields
    without_count_default within_nesting new_type_name new_field_count new_field_name allowed_size allowed_default ended_type
    stated_field stated_fields within_length laid_type laid_types type_count by_profile
calc_laid = refl

short_laid : by_profile short_text.profile short_text.types ≡ Ok short
unfolding digits word_of fixed_of inside_of shape_of base_of type_text_of shape_in counted_fields
    without_count_default within_nesting new_type_name new_field_count new_field_name allowed_size allowed_default ended_type
    stated_field stated_fields within_length laid_type laid_types type_count by_profile
short_laid = refl

full_laid : by_profile full_text.profile full_text.types ≡ Ok full
unfolding digits word_of fixed_of inside_of shape_of base_of type_text_of shape_in counted_fields
    without_count_default within_nesting new_type_name new_field_count new_field_name allowed_size allowed_default ended_type
    stated_field stated_fields within_length laid_type laid_types type_count by_profile
full_laid = refl

tight_laid : by_profile tight_text.profile tight_text.types ≡ Ok tight
unfolding digits word_of fixed_of inside_of shape_of base_of type_text_of shape_in counted_fields
    without_count_default within_nesting new_type_name new_field_count new_field_name allowed_size allowed_default ended_type
    stated_field stated_fields within_length laid_type laid_types type_count by_profile
tight_laid = refl

-- ---- one behind another

-- a format of a new name that is laid out so, and isn't longer than the limit
one_more : (limit k : ℕ) (done : Named) (value : Data) (text : FormatText) (layout : Layout) → format_in value ≡ Ok text
    → is_among text.name done.names ≡ false → by_profile text.profile text.types ≡ Ok layout → nat_le (record_length layout) limit ≡ true
    → next_format limit k done value ≡ Ok (named_with (done.names ++ text.name ∷ []) (done.known ++ known_format layout ∷ []))
unfolding new_format next_format
one_more limit k done value text layout said fresh by short =
    then_is _ (under_is (Index k) said)
    (then_is _ (then_is _ (passes _ (ap not fresh)) (then_is _ (ap (laid k) by) (then_is _ (passes _ short) refl))) refl)

-- the first so many
abbrev so_far : ℕ → Named
so_far k = named_with (take k bench_names) (map known_format (take k bench_layouts))

pub formats_there : formats_in 256 (Some formats_value) ≡ Ok (named_with bench_names (map known_format bench_layouts))
unfolding list_in list_within formats_in
formats_there =
    let all = Ok (so_far 5) in
    from_more (next_format 256) 0 (so_far 0) (so_far 1) wide_value (calc_value ∷ short_value ∷ full_value ∷ tight_value ∷ []) all
    (one_more 256 0 (so_far 0) wide_value wide_text wide wide_said refl wide_laid refl)
    (from_more (next_format 256) 1 (so_far 1) (so_far 2) calc_value (short_value ∷ full_value ∷ tight_value ∷ []) all
    (one_more 256 1 (so_far 1) calc_value calc_text calc calc_said refl calc_laid refl)
    (from_more (next_format 256) 2 (so_far 2) (so_far 3) short_value (full_value ∷ tight_value ∷ []) all
    (one_more 256 2 (so_far 2) short_value short_text short short_said refl short_laid refl)
    (from_more (next_format 256) 3 (so_far 3) (so_far 4) full_value (tight_value ∷ []) all
    (one_more 256 3 (so_far 3) full_value full_text full full_said refl full_laid refl)
    (from_more (next_format 256) 4 (so_far 4) (so_far 5) tight_value [] all
    (one_more 256 4 (so_far 4) tight_value tight_text tight tight_said refl tight_laid refl) refl))))

-- ---- sources

pub sources_there : sources_in (Some sources_value) ≡ Ok bench_sources
unfolding whole_number number_within text_in name_in list_in list_within object_in no_others file_name_in source_in next_source sources_in
sources_there = refl
