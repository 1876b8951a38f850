-- The first fault of a record file, from left to right: each frame is read and tested before the
-- next.
use Rattle.std.specs.Prelude.{ℕ, zero, suc, ◌+◌, Bool, true, false, nat_eq, nat_le, nat_lt}
use Rattle.std.specs.Prelude.{if◌then◌else◌, List, [], ◌∷◌, length, take, drop, Option, Some}
use Rattle.std.specs.Prelude.{None, slice_get, Result, Ok, Err}
use Rattle.std.specs.List.{position_from}
use Rattle.std.specs.Option.{ok_or}
use Rattle.evp_base.specs.declared.order.Order.TheVariants.{Big}
use Rattle.evp_base.specs.Numbers.{magnitude}
use Rattle.evp_format.specs.declared.broken.Broken.{Broken}
use Rattle.evp_format.specs.declared.layout_fault.LayoutFault.{LayoutFault}
use Rattle.evp_format.specs.BrokenText.{fault_path}
use Rattle.evp_format.specs.Bytes.{bytes_at, bytes_equal}
use Rattle.evp_format.specs.Datum.{Datum}
use Rattle.evp_format.specs.Layout.{Layout}
use Rattle.evp_format.specs.Reading.{layout_of}
use Rattle.evp_format.specs.Viewing.{view}
use Rattle.evp_file.specs.declared.fault.FileFault.{FileFault}
use Rattle.evp_file.specs.declared.fault.FileFault.TheVariants.{Magic, Short, FrameKind}
use Rattle.evp_file.specs.declared.fault.FileFault.TheVariants.{Layout as LayoutOf, UnknownId}
use Rattle.evp_file.specs.declared.fault.FileFault.TheVariants.{FormatNumber, Broken as BrokenAt}
use Rattle.evp_file.specs.declared.fault.FileFault.TheVariants.{TooLarge, Trailing, Records}
use Rattle.evp_file.specs.declared.fault.FileFault.TheVariants.{Formats}
use Rattle.evp_file.specs.declared.file.FileFormat.TheVariants.{Own, Known}
use Rattle.evp_file.specs.declared.file.KnownFormat.{KnownFormat}
use Rattle.evp_file.specs.declared.file.RecordFile.{RecordFile}
use Rattle.evp_file.specs.declared.frame.Frame.{Frame}
use Rattle.evp_file.specs.declared.frame.Frame.TheVariants.{Format, Record}
use Rattle.evp_file.specs.File.{no_frames, item_of, with_frame, layout_in}
use Rattle.evp_file.specs.Frames.{magic}
use Rattle.evp_file.specs.Steps.{◌>>=◌, only_if}

-- ---- parts of the frame that begins the bytes; `at` is its offset in the file

-- the `size` bytes from `place` on
unfoldable pub part : ℕ → List ℕ → ℕ → ℕ → Result (List ℕ) FileFault
part at bytes place size = if nat_lt (length bytes) (place + size) then Err (Short at)
    else Ok (bytes_at place size bytes)

-- the number of `size` bytes
unfoldable pub number_part : ℕ → List ℕ → ℕ → ℕ → Result ℕ FileFault
number_part at bytes place size = do
  bytes ← part at bytes place size
  Ok (magnitude Big bytes)

-- ---- frames, each with its size

-- a format that the file describes
abbrev pub described : ℕ → Result Layout LayoutFault → Result Layout FileFault
described at (Ok layout) = Ok layout
described at (Err fault) = Err (LayoutOf at fault)

unfoldable pub own_frame : RecordFile → ℕ → List ℕ → Result (Frame × ℕ) FileFault
own_frame file at bytes = do
  size ← number_part at bytes 1 4
  room ← only_if (nat_lt (length file.formats) 1024) (Formats at)
  description ← part at bytes 5 size
  layout ← described at (layout_of description)
  Ok (Format (Own layout), 5 + size)

-- the number of the first known format with this identifier
abbrev pub known_number : List KnownFormat → List ℕ → Option ℕ
known_number known id = position_from (λ (one : KnownFormat). bytes_equal one.id.0 id) 0 known

unfoldable pub known_frame : List KnownFormat → RecordFile → ℕ → List ℕ
    → Result (Frame × ℕ) FileFault
known_frame known file at bytes = do
  id ← part at bytes 1 32
  room ← only_if (nat_lt (length file.formats) 1024) (Formats at)
  number ← ok_or (known_number known id) (UnknownId at)
  Ok (Format (Known number), 33)

-- a record that has a value
abbrev pub unbroken : ℕ → Layout → Result Datum Broken → Result (Unit {0}) FileFault
unbroken at layout (Ok value) = Ok tt
unbroken at layout (Err fault) = Err (BrokenAt at fault (fault_path layout fault))

unfoldable pub record_frame : List KnownFormat → ℕ → RecordFile → ℕ → List ℕ
    → Result (Frame × ℕ) FileFault
record_frame known limit file at bytes = do
  format ← number_part at bytes 1 2
  size ← number_part at bytes 3 4
  room ← only_if (nat_lt (length file.items) 131072) (Records at)
  layout ← ok_or (layout_in known file.formats format) (FormatNumber at)
  short ← only_if (nat_le size limit) (TooLarge at)
  record_bytes ← part at bytes 7 size
  whole ← unbroken at layout (view layout record_bytes)
  Ok (Record (item_of format record_bytes), 7 + size)

-- the end, behind which nothing follows
abbrev pub end_frame : ℕ → List ℕ → Result (Option (Frame × ℕ)) FileFault
end_frame at [] = Ok None
end_frame at (byte ∷ bytes) = Err (Trailing (at + 1))

-- what a letter begins
pub data Letter : Type 0 where
  format_letter : Letter
  id_letter : Letter
  record_letter : Letter
  end_letter : Letter
  no_letter : Letter

abbrev pub letter_of : ℕ → Letter
letter_of byte =
    if nat_eq byte 70 then format_letter else
    (if nat_eq byte 73 then id_letter else
    (if nat_eq byte 82 then record_letter else
    (if nat_eq byte 69 then end_letter else no_letter)))

abbrev pub goes_on : Result (Frame × ℕ) FileFault → Result (Option (Frame × ℕ)) FileFault
goes_on (Ok frame) = Ok (Some frame)
goes_on (Err fault) = Err fault

-- the frame that the letter begins, or none at the end
abbrev pub frame_by : Letter → List KnownFormat → ℕ → RecordFile → ℕ → List ℕ
    → Result (Option (Frame × ℕ)) FileFault
frame_by format_letter known limit file at bytes = goes_on (own_frame file at bytes)
frame_by id_letter known limit file at bytes = goes_on (known_frame known file at bytes)
frame_by record_letter known limit file at bytes = goes_on
    (record_frame known limit file at bytes)
frame_by end_letter known limit file at bytes = end_frame at (drop 1 bytes)
frame_by no_letter known limit file at bytes = Err (FrameKind at)

unfoldable pub frame_at : List KnownFormat → ℕ → RecordFile → ℕ → List ℕ
    → Result (Option (Frame × ℕ)) FileFault
frame_at known limit file at bytes = do
  letter ← ok_or (slice_get bytes 0) (Short at)
  frame_by (letter_of letter) known limit file at bytes

-- ---- files

-- the file at its end, or what is behind one more frame
abbrev pub after_frame : RecordFile → Option (Frame × ℕ)
    → (RecordFile → ℕ → Result RecordFile FileFault) → Result RecordFile FileFault
after_frame file None next = Ok file
after_frame file (Some (frame, size)) next = next (with_frame file frame) size

-- the frames of these bytes, which are `most` bytes or fewer, behind those of a file; each frame
-- has a byte
unfoldable pub frames_from : ℕ → List KnownFormat → ℕ → RecordFile → ℕ → List ℕ
    → Result RecordFile FileFault
frames_from zero known limit file at bytes = Err (Short at)
frames_from (suc most) known limit file at bytes = do
  frame ← frame_at known limit file at bytes
  after_frame file frame (λ more size. frames_from most known limit more (at + size)
      (drop size bytes))

-- the bytes begin with the magic
abbrev pub has_magic : List ℕ → Bool
has_magic bytes = bytes_equal (take 4 bytes) magic

-- the file that the bytes are, or their first fault
unfoldable pub file_of : List KnownFormat → ℕ → List ℕ → Result RecordFile FileFault
file_of known limit bytes = do
  begun ← only_if (has_magic bytes) Magic
  frames_from (length (drop 4 bytes)) known limit no_frames 4 (drop 4 bytes)
