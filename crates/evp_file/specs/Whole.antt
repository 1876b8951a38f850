-- Files that may be written: within the limits, with records that have a value.
use Rattle.std.specs.Prelude.{◌≡◌, ◌^◌, ◌<◌, ◌≤◌, ℕ, List, length, Some, All, IsOk}
use Rattle.evp_format.specs.Layout.{Layout}
use Rattle.evp_format.specs.Viewing.{view}
use Rattle.evp_format.specs.WellLaid.{IsWellLaid}
use Rattle.evp_file.specs.declared.file.FileFormat.{FileFormat}
use Rattle.evp_file.specs.declared.file.FileFormat.TheVariants.{Own, Known}
use Rattle.evp_file.specs.declared.file.FileItem.{FileItem}
use Rattle.evp_file.specs.declared.file.KnownFormat.{KnownFormat}
use Rattle.evp_file.specs.declared.file.RecordFile.{RecordFile}
use Rattle.evp_file.specs.File.{layout_in}

-- a well laid format, or the number of a known one
abbrev pub IsFormatOf : List KnownFormat → FileFormat → Type 0
IsFormatOf known (Own layout) = IsWellLaid layout
IsFormatOf known (Known k) = k < length known

-- a record of one of these formats: fewer than 2^32 bytes, with a value
pub record IsRecordOf (known : List KnownFormat) (formats : List FileFormat)
    (item : FileItem) : Type 0 where
  pub layout : Layout
  pub there : layout_in known formats item.format ≡ Some layout
  pub short : length item.bytes < 2 ^ 32
  pub viewed : IsOk (view layout item.bytes)

-- at most 1,024 formats and 131,072 records of them
pub record IsWhole (known : List KnownFormat) (file : RecordFile) : Type 0 where
  pub few_formats : length file.formats ≤ 1024
  pub few_items : length file.items ≤ 131072
  pub each_format : All (IsFormatOf known) file.formats
  pub each_item : All (IsRecordOf known file.formats) file.items

-- a record of at most so many bytes
abbrev pub IsWithin : ℕ → FileItem → Type 0
IsWithin limit item = length item.bytes ≤ limit
