-- A file as bytes: its formats first, then its records, then the end.
use Rattle.std.specs.Prelude.{ℕ, List, ◌++◌, map, codes}
use Rattle.std.specs.List.{flat_map}
use Rattle.evp_file.specs.declared.file.FileFormat.{FileFormat}
use Rattle.evp_file.specs.declared.file.KnownFormat.{KnownFormat}
use Rattle.evp_file.specs.declared.file.RecordFile.{RecordFile}
use Rattle.evp_file.specs.declared.frame.Frame.{Frame}
use Rattle.evp_file.specs.declared.frame.Frame.TheVariants.{Format, Record}
use Rattle.evp_file.specs.Frames.{format_bytes, magic, frames_bytes}

-- the frames of a file, formats first
abbrev pub frames_of : RecordFile → List Frame
frames_of file = map Format file.formats ++ map Record file.items

abbrev pub written : List KnownFormat → RecordFile → List ℕ
written known file = magic ++ (frames_bytes known (frames_of file) ++ codes "E")

-- what stands before the first record of a file with these formats
abbrev pub begun : List KnownFormat → List FileFormat → List ℕ
begun known formats = magic ++ flat_map (format_bytes known) formats
