-- The definitions on worked examples, whose answers were worked out by hand.
use Rattle.std.proofs.Common.{◌≡◌, ℕ, ◌+◌, List, [], ◌∷◌, ◌++◌, length, map, take, Some, Result, Ok, Err, codes, refl}
use Rattle.std.specs.Prelude.{replicate}
use Rattle.std.specs.Fmt.{digits}
use Rattle.evp_format.specs.declared.broken.Broken.TheVariants.{ShortRecord}
use Rattle.evp_format.specs.declared.layout_fault.LayoutFault.TheVariants as layout
use Rattle.evp_format.specs.Drafts.{shape_in, counted_fields, without_count_default, within_nesting, without_overlap}
use Rattle.evp_format.specs.Parts.{new_type_name, new_field_count, new_field_name, allowed_size, allowed_default, ended_type}
use Rattle.evp_format.specs.Reading.{number_at, signed_at, text_behind, text_at, field_name_at, field_type_at, field_size_at}
use Rattle.evp_format.specs.Reading.{field_offset_at, default_at, field_at, fields_at, type_name_at, type_length_at, field_count_at}
use Rattle.evp_format.specs.Reading.{whole_type, type_at, types_at, magic_at, order_at, pointer_at, type_count_at, with_default}
use Rattle.evp_format.specs.Reading.{layout_at, layout_of}
use Rattle.evp_format.specs.TypeText.{word_of, fixed_of, inside_of, shape_of, base_of, type_text_of}
use Rattle.evp_file.specs.declared.fault.FileFault.{FileFault}
use Rattle.evp_file.specs.declared.fault.FileFault.TheVariants.{Magic, Short, FrameKind, Layout as LayoutOf, UnknownId, FormatNumber}
use Rattle.evp_file.specs.declared.fault.FileFault.TheVariants.{Broken, TooLarge, Trailing}
use Rattle.evp_file.specs.declared.file.FileFormat.TheVariants.{Known}
use Rattle.evp_file.specs.declared.file.KnownFormat.{KnownFormat}
use Rattle.evp_file.specs.declared.file.RecordFile.{RecordFile}
use Rattle.evp_file.specs.File.{no_frames, file_with, item_of}
use Rattle.evp_file.specs.Reading.{part, number_part, own_frame, known_frame, record_frame, frame_at, frames_from, file_of}
use Rattle.evp_file.specs.Samples.{number_description, number_layout, number_file, record_and_end, number_file_bytes}
use Rattle.evp_file.specs.Writing.{written}

size : length number_file_bytes ≡ 55
size = refl

spelled : written [] number_file ≡ number_file_bytes
spelled = refl

abbrev answers : List (List ℕ) → List (Result RecordFile FileFault)
answers rows = map (file_of [] 4096) rows

abbrev cuts : List ℕ → List (List ℕ)
cuts sizes = map (λ n. take n number_file_bytes) sizes

abbrev before_record : List ℕ
before_record = take 43 number_file_bytes

-- the file is read; where it is cut, or a byte follows
read : answers (cuts (55 ∷ 3 ∷ 4 ∷ 42 ∷ 43 ∷ 53 ∷ 54 ∷ []))
    ≡ Ok number_file ∷ Err Magic ∷ Err (Short 4) ∷ Err (Short 4) ∷ Err (Short 43) ∷ Err (Short 43) ∷ Err (Short 54) ∷ []
unfolding new_type_name new_field_count new_field_name allowed_size allowed_default ended_type digits
    word_of fixed_of inside_of shape_of base_of type_text_of shape_in counted_fields without_count_default within_nesting without_overlap
    number_at signed_at text_behind text_at field_name_at field_type_at field_size_at field_offset_at default_at field_at fields_at
    type_name_at type_length_at field_count_at whole_type type_at types_at magic_at order_at pointer_at type_count_at with_default
    layout_at layout_of part number_part own_frame known_frame record_frame frame_at frames_from file_of
read = refl

-- one byte other than it should be: a length, a format number, a length above the limit, a letter, a byte behind the end, a record
-- cut inside its frame, a type text
refused : answers (
    (take 5 number_file_bytes ++ (255 ∷ 255 ∷ 255 ∷ 255 ∷ number_description ++ record_and_end))
    ∷ (before_record ++ 82 ∷ 0 ∷ 1 ∷ 0 ∷ 0 ∷ 0 ∷ 4 ∷ 7 ∷ 0 ∷ 0 ∷ 0 ∷ 69 ∷ [])
    ∷ (before_record ++ 82 ∷ 0 ∷ 0 ∷ 0 ∷ 0 ∷ 16 ∷ 1 ∷ 7 ∷ 0 ∷ 0 ∷ 0 ∷ 69 ∷ [])
    ∷ (take 54 number_file_bytes ++ 88 ∷ [])
    ∷ (number_file_bytes ++ 0 ∷ [])
    ∷ (before_record ++ 82 ∷ 0 ∷ 0 ∷ 0 ∷ 0 ∷ 0 ∷ 3 ∷ 7 ∷ 0 ∷ 0 ∷ 69 ∷ [])
    ∷ (codes "NDR1" ++ 70 ∷ 0 ∷ 0 ∷ 0 ∷ 32 ∷ take 18 number_description ++ (5 ∷ codes "float") ++ 0 ∷ 0 ∷ 0 ∷ 4 ∷ 0 ∷ 0 ∷ 0 ∷ 0
    ∷ record_and_end)
    ∷ [])
    ≡ Err (Short 4) ∷ Err (FormatNumber 43) ∷ Err (TooLarge 43) ∷ Err (FrameKind 54) ∷ Err (Trailing 55) ∷ Err (Broken 43 ShortRecord [])
    ∷ Err (LayoutOf 4 (layout.Float 0 0)) ∷ []
unfolding new_type_name new_field_count new_field_name allowed_size allowed_default ended_type digits
    word_of fixed_of inside_of shape_of base_of type_text_of shape_in counted_fields without_count_default within_nesting without_overlap
    number_at signed_at text_behind text_at field_name_at field_type_at field_size_at field_offset_at default_at field_at fields_at
    type_name_at type_length_at field_count_at whole_type type_at types_at magic_at order_at pointer_at type_count_at with_default
    layout_at layout_of part number_part own_frame known_frame record_frame frame_at frames_from file_of
refused = refl

-- of two known formats with one identifier the first is meant
abbrev known : List KnownFormat
known =
    record { format = number_layout; id = record { 0 = replicate 32 1 } }
    ∷ record { format = number_layout; id = record { 0 = replicate 32 2 } }
    ∷ record { format = number_layout; id = record { 0 = replicate 32 2 } } ∷ []

identified : map (λ n. file_of known 4096 (codes "NDR1" ++ 73 ∷ replicate 32 n ++ record_and_end)) (2 ∷ 3 ∷ [])
    ≡ Ok (file_with (Known 1 ∷ []) (item_of 0 (7 ∷ 0 ∷ 0 ∷ 0 ∷ []) ∷ [])) ∷ Err (UnknownId 4) ∷ []
unfolding part number_part own_frame known_frame record_frame frame_at frames_from file_of
identified = refl
