-- What a record file holds, and the layouts of its formats.
use Rattle.std.specs.Prelude.{ℕ, List, [], ◌∷◌, ◌++◌, Option, Some, option_map, option_and_then}
use Rattle.std.specs.Prelude.{slice_get}
use Rattle.evp_format.specs.Layout.{Layout}
use Rattle.evp_file.specs.declared.file.FileFormat.{FileFormat}
use Rattle.evp_file.specs.declared.file.FileFormat.TheVariants.{Own, Known}
use Rattle.evp_file.specs.declared.file.FileItem.{FileItem}
use Rattle.evp_file.specs.declared.file.KnownFormat.{KnownFormat}
use Rattle.evp_file.specs.declared.file.RecordFile.{RecordFile}
use Rattle.evp_file.specs.declared.frame.Frame.{Frame}
use Rattle.evp_file.specs.declared.frame.Frame.TheVariants.{Format, Record}

abbrev pub file_with : List FileFormat → List FileItem → RecordFile
file_with formats items = record { formats = formats; items = items }

-- a file without formats and records
abbrev pub no_frames : RecordFile
no_frames = file_with [] []

abbrev pub item_of : ℕ → List ℕ → FileItem
item_of format bytes = record { format = format; bytes = bytes }

-- the file with one more frame
abbrev pub with_frame : RecordFile → Frame → RecordFile
with_frame file (Format format) = file_with (file.formats ++ format ∷ []) file.items
with_frame file (Record item) = file_with file.formats (file.items ++ item ∷ [])

-- the layout of a format of a file
abbrev pub format_layout : List KnownFormat → FileFormat → Option Layout
format_layout known (Own layout) = Some layout
format_layout known (Known k) = option_map (λ (one : KnownFormat). one.format) (slice_get known k)

-- the layout of the format of this number among these
abbrev pub layout_in : List KnownFormat → List FileFormat → ℕ → Option Layout
layout_in known formats number = option_and_then (format_layout known) (slice_get formats number)
