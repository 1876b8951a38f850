-- What `convert JOB FORMAT FILE` answers: each record of the file, converted to the job's format of
-- that name, or why it isn't.
use Rattle.std.specs.Prelude.{◌≡◌, ◌⊎◌, ℕ, List, [], map, Option, Some, None, slice_get}
use Rattle.std.specs.Prelude.{Result, Ok, Err}
use Rattle.std.specs.List.{position_from}
use Rattle.std.specs.Option.{option_and_then}
use Rattle.evp_action.specs.declared.acted.Reason.TheVariants.{Clash, Unfit, Large}
use Rattle.evp_depot.specs.Files.{Files}
use Rattle.evp_file.specs.declared.file.FileFormat.{FileFormat}
use Rattle.evp_file.specs.declared.file.FileItem.{FileItem}
use Rattle.evp_file.specs.declared.file.KnownFormat.{KnownFormat}
use Rattle.evp_file.specs.declared.file.RecordFile.{RecordFile}
use Rattle.evp_file.specs.File.{layout_in}
use Rattle.evp_file.specs.Reading.{file_of}
use Rattle.evp_format.specs.Bytes.{bytes_equal}
use Rattle.evp_format.specs.declared.broken.Broken.{Broken}
use Rattle.evp_format.specs.Conversion.{Answer, conversion, clashes, converted, unfit_at, large_at}
use Rattle.evp_format.specs.Datum.{Datum}
use Rattle.evp_format.specs.Layout.{Layout}
use Rattle.evp_format.specs.ValueText.{value_text}
use Rattle.evp_format.specs.Viewing.{view}
use Rattle.evp_job.specs.declared.fault.JobFault.TheVariants as fault
use Rattle.evp_job.specs.TextShape.{TextShape}
use Rattle.evp_report.specs.Report.{numbered_line, reason_text}
use Rattle.evp_stones.specs.declared.refusal.Refusal.{Refusal}
use Rattle.evp_stones.specs.declared.refusal.Refusal.TheVariants.{Job}
use Rattle.evp_stones.specs.Fetching.{fetched, longest_file, IsHeld}
use Rattle.evp_stones.specs.JobText.{IsJobOf}
use Rattle.evp_stones.specs.Numbered.{numbered}
use Rattle.evp_stones.specs.Show.{data_of}
use Rattle.evp_stones.specs.Steps.{◌>>=◌}

-- ---- the receiver

-- the first format of this name
abbrev pub format_named : List (List ℕ) → List KnownFormat → List ℕ → Option KnownFormat
format_named names formats wanted = option_and_then (slice_get formats)
    (position_from (λ name. bytes_equal name wanted) 0 names)

-- where no format has the name, that is a fault of the whole document
abbrev pub receiver : Option KnownFormat → Result KnownFormat Refusal
receiver None = Err (Job (fault.UnknownFormat []))
receiver (Some known) = Ok known

-- ---- records

-- the converted value, or why there is none
abbrev pub answer_text : Answer → List ℕ
answer_text (clashes path) = reason_text (Clash path)
answer_text (converted value size) = value_text value
answer_text (unfit_at path) = reason_text (Unfit path)
answer_text (large_at path) = reason_text (Large path)

-- of a value in this layout
abbrev pub viewed_answer : Layout → Layout → ℕ → Result Datum Broken → List ℕ
viewed_answer from to limit (Ok value) = answer_text (conversion from to value limit)
viewed_answer from to limit (Err fault) = []

-- of bytes in this layout, which each record of a file has
abbrev pub answer_in : Option Layout → Layout → ℕ → List ℕ → List ℕ
answer_in None to limit bytes = []
answer_in (Some from) to limit bytes = viewed_answer from to limit (view from bytes)

-- what is told of a record
abbrev pub item_answer : List KnownFormat → List FileFormat → Layout → ℕ → FileItem → List ℕ
item_answer known formats to limit item =
    answer_in (layout_in known formats item.format) to limit item.bytes

-- `#I VALUE` or `#I REASON` for each
abbrev pub convert_text : List KnownFormat → Layout → ℕ → RecordFile → List ℕ
convert_text known to limit file =
    numbered numbered_line 0 (map (item_answer known file.formats to limit) file.items)

-- ---- the whole

-- the file is read with the job's formats and limit
abbrev pub converted_bytes : TextShape → Layout → List ℕ → List ℕ → Result (List ℕ) Refusal
converted_bytes text to name bytes = do
  file ← data_of name (file_of text.formats text.limit bytes)
  Ok (convert_text text.formats to text.limit file)

abbrev pub file_answer : TextShape → Layout → List ℕ → Files → Result (List ℕ) Refusal
file_answer text to name files = do
  bytes ← fetched files longest_file name
  converted_bytes text to name bytes

-- behind the job's text: the format is looked up, and then the file is fetched and read
abbrev pub converts : List ℕ → List ℕ → Files → TextShape → Result (List ℕ) Refusal
converts format name files text = do
  to ← receiver (format_named text.names text.formats format)
  file_answer text to.format name files

-- the records of the file, or the first refusal
pub record IsConvert (job format file : List ℕ) (files : Files) (answer : Result (List ℕ) Refusal) :
    Type 0 where
  pub text : Result TextShape Refusal
  pub is : IsJobOf job files text
  pub answered : answer ≡ (text >>= converts format file files)

-- the file is the one to be read, where the job has the format
pub record IsFileBy (format file : List ℕ) (text : TextShape) (files : Files) (name : List ℕ) :
    Type 0 where
  pub to : KnownFormat
  pub found : format_named text.names text.formats format ≡ Some to
  pub held : IsHeld file files name

-- the same, where the document states the job
pub record IsFileOf (job format file : List ℕ) (files : Files) (name : List ℕ) : Type 0 where
  pub text : TextShape
  pub is : IsJobOf job files (Ok text)
  pub by : IsFileBy format file text files name

-- the job's document or the file
abbrev pub IsReadFor : List ℕ → List ℕ → List ℕ → Files → List ℕ → Type 0
IsReadFor job format file files name = IsHeld job files name ⊎ IsFileOf job format file files name
