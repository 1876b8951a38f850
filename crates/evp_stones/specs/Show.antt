-- What `show FILE` answers: the formats of a record file, each with its types and their fields, and
-- then its records.
use Rattle.std.specs.Prelude.{ℕ, List, [], ◌∷◌, ◌++◌, codes, Option, Some, None, slice_get, Result}
use Rattle.std.specs.Prelude.{Ok, Err}
use Rattle.std.specs.List.{flat_map}
use Rattle.hex.specs.Hex.{encode_lower}
use Rattle.evp_base.specs.declared.order.Order.{Order}
use Rattle.evp_base.specs.declared.order.Order.TheVariants.{Little, Big}
use Rattle.evp_depot.specs.Files.{Files}
use Rattle.evp_file.specs.declared.fault.FileFault.{FileFault}
use Rattle.evp_file.specs.declared.file.FileFormat.{FileFormat}
use Rattle.evp_file.specs.declared.file.FileFormat.TheVariants.{Own, Known}
use Rattle.evp_file.specs.declared.file.FileItem.{FileItem}
use Rattle.evp_file.specs.declared.file.KnownFormat.{KnownFormat}
use Rattle.evp_file.specs.declared.file.RecordFile.{RecordFile}
use Rattle.evp_file.specs.Reading.{file_of}
use Rattle.evp_format.specs.declared.broken.Broken.{Broken}
use Rattle.evp_format.specs.declared.field.Field.{Field}
use Rattle.evp_format.specs.declared.record_type.RecordType.{RecordType}
use Rattle.evp_format.specs.Datum.{Datum}
use Rattle.evp_format.specs.Describing.{type_text}
use Rattle.evp_format.specs.Layout.{Layout}
use Rattle.evp_format.specs.ValueText.{value_text}
use Rattle.evp_format.specs.Viewing.{view}
use Rattle.evp_job.specs.Formats.{known_format}
use Rattle.evp_report.specs.Report.{counted, line_end}
use Rattle.evp_stones.specs.declared.refusal.Refusal.{Refusal}
use Rattle.evp_stones.specs.declared.refusal.Refusal.TheVariants.{Data}
use Rattle.evp_stones.specs.Fetching.{fetched, longest_file}
use Rattle.evp_stones.specs.Numbered.{numbered}
use Rattle.evp_stones.specs.Steps.{◌>>=◌}

-- ---- formats

abbrev pub order_word : Order → List ℕ
order_word Little = codes "little"
order_word Big = codes "big"

abbrev pub machine_text : Layout → List ℕ
machine_text layout = codes " " ++ order_word layout.order
    ++ counted (codes " pointer ") layout.pointer ++ codes " "

-- `format K ORDER pointer P HEX`
abbrev pub format_line : ℕ → KnownFormat → List ℕ
format_line number known =
    counted (codes "format ") number ++ machine_text known.format ++ encode_lower known.id.0
    ++ line_end

-- `type NAME length L`
abbrev pub type_line : RecordType → List ℕ
type_line type = codes "type " ++ type.name ++ counted (codes " length ") type.length ++ line_end

abbrev pub named_text : List ℕ → List ℕ
named_text name = codes "field " ++ name ++ codes " "

-- `field NAME TYPETEXT size S offset O`
abbrev pub field_line : List RecordType → List Field → Field → List ℕ
field_line types fields field =
    named_text field.name ++ type_text types fields field
    ++ counted (codes " size ") field.size ++ counted (codes " offset ") field.offset ++ line_end

-- a type of these, and its fields
abbrev pub type_lines : List RecordType → RecordType → List ℕ
type_lines types type = type_line type ++ flat_map (field_line types type.fields) type.fields

abbrev pub format_lines : ℕ → KnownFormat → List ℕ
format_lines number known =
    format_line number known ++ flat_map (type_lines known.format.types) known.format.types

-- ---- records

-- the value of a record, which each record of a file has
abbrev pub viewed_text : Result Datum Broken → List ℕ
viewed_text (Ok value) = value_text value
viewed_text (Err fault) = []

abbrev pub value_in : Option KnownFormat → List ℕ → List ℕ
value_in None bytes = []
value_in (Some known) bytes = viewed_text (view known.format bytes)

abbrev pub head_text : ℕ → ℕ → List ℕ
head_text number format = counted (codes "#") number ++ counted (codes " format ") format
    ++ codes " "

-- `#I format K VALUE`
abbrev pub item_line : List KnownFormat → ℕ → FileItem → List ℕ
item_line formats number item =
    head_text number item.format ++ value_in (slice_get formats item.format) item.bytes ++ line_end

-- ---- the whole

abbrev pub shown : List KnownFormat → List FileItem → List ℕ
shown formats items = numbered format_lines 0 formats ++ numbered (item_line formats) 0 items

-- a format that the file describes, with its identifier
abbrev pub own_known : FileFormat → List KnownFormat
own_known (Own layout) = known_format layout ∷ []
own_known (Known number) = []

abbrev pub file_text : RecordFile → List ℕ
file_text file = shown (flat_map own_known file.formats) file.items

-- the longest record
abbrev pub longest_record : ℕ
longest_record = 262144

-- the file, or its fault, of the file of this name
abbrev pub data_of : {X : Type 0} → List ℕ → Result X FileFault → Result X Refusal
data_of name (Ok file) = Ok file
data_of name (Err fault) = Err (Data name fault)

-- the text of the file of this name and of these bytes; it knows no formats, so each is described
abbrev pub shown_bytes : List ℕ → List ℕ → Result (List ℕ) Refusal
shown_bytes name bytes = do
  file ← data_of name (file_of [] longest_record bytes)
  Ok (file_text file)

abbrev pub show_answer : Files → List ℕ → Result (List ℕ) Refusal
show_answer files name = do
  bytes ← fetched files longest_file name
  shown_bytes name bytes
