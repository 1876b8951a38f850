-- The grammar of record files: the magic, and frames of which the end alone is the last, each
-- admissible after those before it.
use Rattle.std.specs.Prelude.{◌≡◌, ◌≢◌, ◌<◌, ◌≤◌, ◌+◌, ℕ, List, [], ◌∷◌, ◌++◌, length, Some, None}
use Rattle.std.specs.Prelude.{Option, slice_get, IsOk, codes}
use Rattle.std.specs.List.{flat_map}
use Rattle.evp_format.specs.Describing.{describe, described_number}
use Rattle.evp_format.specs.Layout.{Layout}
use Rattle.evp_format.specs.Viewing.{view}
use Rattle.evp_format.specs.WellLaid.{IsWellLaid}
use Rattle.evp_file.specs.declared.file.FileFormat.{FileFormat}
use Rattle.evp_file.specs.declared.file.FileFormat.TheVariants.{Own, Known}
use Rattle.evp_file.specs.declared.file.FileItem.{FileItem}
use Rattle.evp_file.specs.declared.file.KnownFormat.{KnownFormat}
use Rattle.evp_file.specs.declared.file.RecordFile.{RecordFile}
use Rattle.evp_file.specs.declared.frame.Frame.{Frame}
use Rattle.evp_file.specs.declared.frame.Frame.TheVariants.{Format, Record}
use Rattle.evp_file.specs.File.{no_frames, with_frame, layout_in}

-- ---- the bytes of frames

-- a text behind its length, a number of 4 bytes
abbrev pub sized : List ℕ → List ℕ
sized bytes = described_number 4 (length bytes) ++ bytes

abbrev pub id_in : Option KnownFormat → List ℕ
id_in None = []
id_in (Some one) = one.id.0

-- a format: `F` and its description, or `I` and the identifier of a known format
abbrev pub format_bytes : List KnownFormat → FileFormat → List ℕ
format_bytes known (Own layout) = codes "F" ++ sized (describe layout)
format_bytes known (Known k) = codes "I" ++ id_in (slice_get known k)

-- a record: `R`, the number of its format, its bytes
abbrev pub item_bytes : FileItem → List ℕ
item_bytes item = codes "R" ++ (described_number 2 item.format ++ sized item.bytes)

abbrev pub frame_bytes : List KnownFormat → Frame → List ℕ
frame_bytes known (Format format) = format_bytes known format
frame_bytes known (Record item) = item_bytes item

abbrev pub frames_bytes : List KnownFormat → List Frame → List ℕ
frames_bytes known frames = flat_map (frame_bytes known) frames

-- ---- admissible frames

-- the first of the known formats with its identifier, which has 32 bytes
pub record IsFirstKnown (known : List KnownFormat) (k : ℕ) : Type 0 where
  pub one : KnownFormat
  pub there : slice_get known k ≡ Some one
  pub whole : length one.id.0 ≡ 32
  pub before : (j : ℕ) (other : KnownFormat) → j < k → slice_get known j ≡ Some other
      → other.id.0 ≢ one.id.0

-- a format that a file may have: a well laid one, or a known one
abbrev pub IsFormat : List KnownFormat → FileFormat → Type 0
IsFormat known (Own layout) = IsWellLaid layout
IsFormat known (Known k) = IsFirstKnown known k

-- a record that a file with these formats may have: of one of them, at most so long, and with a
-- value
pub record IsItem (known : List KnownFormat) (limit : ℕ) (formats : List FileFormat)
    (item : FileItem) : Type 0 where
  pub layout : Layout
  pub there : layout_in known formats item.format ≡ Some layout
  pub short : length item.bytes ≤ limit
  pub viewed : IsOk (view layout item.bytes)

-- a frame that may follow those of this file: at most 1,024 formats and 131,072 records, a
-- record's format before the record
abbrev pub IsAdmissible : List KnownFormat → ℕ → RecordFile → Frame → Type 0
IsAdmissible known limit file (Format format) = (length file.formats < 1024)
    × IsFormat known format
IsAdmissible known limit file (Record item) = (length file.items < 131072)
    × IsItem known limit file.formats item

-- behind this file's frames each of these is admissible after those before it, and with them it
-- is the whole
abbrev pub LeadTo : List KnownFormat → ℕ → RecordFile → List Frame → RecordFile → Type 0
LeadTo known limit file [] whole = file ≡ whole
LeadTo known limit file (frame ∷ frames) whole = IsAdmissible known limit file frame
    × LeadTo known limit (with_frame file frame) frames whole

-- ---- files

abbrev pub magic : List ℕ
magic = codes "NDR1"

-- the bytes are this file
pub record IsFile (known : List KnownFormat) (limit : ℕ) (bytes : List ℕ)
    (file : RecordFile) : Type 0 where
  pub frames : List Frame
  pub admissible : LeadTo known limit no_frames frames file
  pub spelled : bytes ≡ magic ++ (frames_bytes known frames ++ codes "E")
