-- The senders' layouts are those of what they declare.
use Rattle.std.proofs.Common.{◌≡◌, [], ◌∷◌, Ok, refl}
use Rattle.std.specs.Fmt.{digits}
use Rattle.evp_format.specs.Drafts.{shape_in, counted_fields, without_count_default, within_nesting}
use Rattle.evp_format.specs.Parts.{new_type_name, new_field_count, new_field_name, allowed_size}
use Rattle.evp_format.specs.Parts.{allowed_default, ended_type}
use Rattle.evp_format.specs.TypeText.{word_of, fixed_of, inside_of, shape_of, base_of, type_text_of}
use Rattle.evp_profile.specs.declared.profile.Profile.{Profile}
use Rattle.evp_profile.specs.declared.profile.Profile.TheVariants.{Le64, Le32, Be64, Be32}
use Rattle.evp_profile.specs.LayingOut.{stated_field, stated_fields, within_length, laid_type}
use Rattle.evp_profile.specs.LayingOut.{laid_types, type_count, by_profile}
use Rattle.evp_gen.specs.Senders.{sent_declared, sent_layout}

pub laid_out : (profile : Profile) → by_profile profile (sent_declared ∷ [])
    ≡ Ok (sent_layout profile)
unfolding digits word_of fixed_of inside_of shape_of base_of type_text_of shape_in counted_fields
    without_count_default within_nesting
    new_type_name new_field_count new_field_name allowed_size allowed_default ended_type
    stated_field stated_fields within_length laid_type
    laid_types type_count by_profile
laid_out Le64 = refl
laid_out Le32 = refl
laid_out Be64 = refl
laid_out Be32 = refl
