-- What the four senders send: a file of n records each, in the sender's own layout.
use Rattle.std.specs.Prelude.{ℕ, ◌+◌, ◌*◌, ◌%◌, pos, ◌-ℤ◌, nat_eq, if◌then◌else◌, List, []}
use Rattle.std.specs.Prelude.{◌∷◌}
use Rattle.std.specs.Prelude.{map, codes}
use Rattle.std.specs.Fmt.{decimal}
use Rattle.std.specs.List.{range_with_len}
use Rattle.evp_base.specs.declared.kind.Kind.TheVariants.{Int, Unsigned}
use Rattle.evp_format.specs.declared.field.Base.{Base}
use Rattle.evp_format.specs.declared.field.Base.TheVariants.{Number, Text}
use Rattle.evp_format.specs.declared.field.Field.{Field}
use Rattle.evp_format.specs.declared.field.Shape.{Shape}
use Rattle.evp_format.specs.declared.field.Shape.TheVariants.{One, Counted}
use Rattle.evp_format.specs.declared.record_type.RecordType.{RecordType}
use Rattle.evp_format.specs.Datum.{Datum, num, null, text, list, rec, empty_record, entry}
use Rattle.evp_format.specs.Layout.{Layout, layout_with}
use Rattle.evp_format.specs.Packing.{pack}
use Rattle.evp_format.specs.ValueView.{elements_from}
use Rattle.evp_file.specs.declared.file.FileFormat.TheVariants.{Own}
use Rattle.evp_file.specs.declared.file.FileItem.{FileItem}
use Rattle.evp_file.specs.declared.file.RecordFile.{RecordFile}
use Rattle.evp_file.specs.File.{file_with, item_of}
use Rattle.evp_file.specs.Writing.{written}
use Rattle.evp_profile.specs.declared.profile.Profile.{Profile}
use Rattle.evp_profile.specs.declared.profile.Profile.TheVariants.{Le64, Le32, Be64, Be32}
use Rattle.evp_profile.specs.Declarations.{DeclaredField, DeclaredType}
use Rattle.evp_profile.specs.Profile.{byte_order, pointer_size}

-- ---- the layout

abbrev pub declared_field : List ℕ → List ℕ → ℕ → DeclaredField
declared_field name type_text size =
    record { name = name; type_text = type_text; size = size; fallback = pos 0 }

-- the type that each sender declares
abbrev pub sent_declared : DeclaredType
sent_declared = record {
  name = codes "s";
  fields = declared_field (codes "id") (codes "unsigned integer") 4
      ∷ declared_field (codes "x") (codes "integer") 4
      ∷ declared_field (codes "tag") (codes "string") 0
      ∷ declared_field (codes "n") (codes "integer") 4
      ∷ declared_field (codes "v") (codes "integer[n]") 2 ∷ [];
}

abbrev pub laid_field : List ℕ → Base → Shape → ℕ → ℕ → Field
laid_field name base shape size offset = record {
  name = name;
  base = base;
  shape = shape;
  size = size;
  offset = offset;
  fallback = pos 0;
}

-- the type where pointers have this many bytes
abbrev pub sent_type : ℕ → RecordType
sent_type pointer = record {
  name = codes "s";
  length = 8 + 3 * pointer;
  fields = laid_field (codes "id") (Number Unsigned) One 4 0
      ∷ laid_field (codes "x") (Number Int) One 4 4
      ∷ laid_field (codes "tag") Text One pointer 8
      ∷ laid_field (codes "n") (Number Int) One 4 (8 + pointer)
      ∷ laid_field (codes "v") (Number Int) (Counted 3) 2 (8 + 2 * pointer) ∷ [];
}

-- what this type is for the machine of a profile
abbrev pub sent_layout : Profile → Layout
sent_layout profile =
    layout_with (byte_order profile) (pointer_size profile) (sent_type (pointer_size profile) ∷ [])

-- ---- the records

-- every fifth is null
abbrev pub tag_of : ℕ → Datum
tag_of i = if nat_eq (i % 5) 4 then null else text (decimal (i % 100))

abbrev pub element_of : ℕ → ℕ → Datum
element_of i k = num (pos ((i + k) % 100) -ℤ pos 50)

abbrev pub list_of_record : ℕ → Datum
list_of_record i = list (elements_from (map (element_of i) (range_with_len 0 (i % 4))))

abbrev pub number_x : ℕ → ℕ → Datum
number_x s i = num (pos ((37 * i + 11 * s) % 1009) -ℤ pos 500)

-- record i of the sender of number s
abbrev pub sent_record : ℕ → ℕ → Datum
sent_record s i =
    rec (entry (codes "id") (num (pos i))
    (entry (codes "x") (number_x s i)
    (entry (codes "tag") (tag_of i)
    (entry (codes "n") (num (pos (i % 4)))
    (entry (codes "v") (list_of_record i) empty_record)))))

-- ---- the files

abbrev pub sent_item : Layout → ℕ → ℕ → FileItem
sent_item layout s i = item_of 0 (pack layout (sent_record s i))

-- n records of the sender of number s, which has this profile
abbrev pub sent_file : Profile → ℕ → ℕ → RecordFile
sent_file profile s n = file_with (Own (sent_layout profile) ∷ [])
    (map (sent_item (sent_layout profile) s) (range_with_len 0 n))

abbrev pub sent_bytes : Profile → ℕ → ℕ → List ℕ
sent_bytes profile s n = written [] (sent_file profile s n)

-- the files of the senders, in their order
abbrev pub all_sent : ℕ → List (List ℕ)
all_sent n = sent_bytes Le64 0 n ∷ sent_bytes Le32 1 n ∷ sent_bytes Be64 2 n
    ∷ sent_bytes Be32 3 n ∷ []
