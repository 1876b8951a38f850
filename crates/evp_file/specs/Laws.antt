-- The laws of record files, as statements.
use Rattle.std.specs.Prelude.{◌≡◌, ◌≢◌, ℕ, ◌+◌, ◌^◌, ◌<◌, List, ◌++◌, length, Ok, Err, All}
use Rattle.std.specs.Prelude.{AllPairs}
use Rattle.evp_file.specs.declared.fault.FileFault.{FileFault}
use Rattle.evp_file.specs.declared.fault.FileFault.TheVariants.{Magic}
use Rattle.evp_file.specs.declared.file.KnownFormat.{KnownFormat}
use Rattle.evp_file.specs.declared.file.RecordFile.{RecordFile}
use Rattle.evp_file.specs.declared.frame.Frame.{Frame}
use Rattle.evp_file.specs.File.{no_frames}
use Rattle.evp_file.specs.Frames.{magic, frames_bytes, LeadTo, IsFile}
use Rattle.evp_file.specs.Reading.{frame_at, file_of}
use Rattle.evp_file.specs.Whole.{IsWhole, IsWithin}
use Rattle.evp_file.specs.Writing.{written}

-- an identifier has 32 bytes
abbrev pub HasId : KnownFormat → Type 0
HasId one = length one.id.0 ≡ 32

-- a fault stands where the bytes up to it are the magic and admissible frames, and it is the
-- first of what stands there
pub data HasFault (known : List KnownFormat) (limit : ℕ) (bytes : List ℕ) : FileFault
    → Type 0 where
  begins_otherwise : ((rest : List ℕ) → bytes ≢ magic ++ rest) → HasFault known limit bytes Magic
  stands : (frames : List Frame) (file : RecordFile) (rest : List ℕ) (fault : FileFault)
      → LeadTo known limit no_frames frames file
      → bytes ≡ magic ++ (frames_bytes known frames ++ rest)
      → frame_at known limit file (4 + length (frames_bytes known frames)) rest ≡ Err fault
      → HasFault known limit bytes fault

-- what is read of some bytes
pub record IsExact (known : List KnownFormat) (limit : ℕ) (bytes : List ℕ) : Type 0 where
  -- a file is read only of its bytes
  pub found : (file : RecordFile) → file_of known limit bytes ≡ Ok file
      → IsFile known limit bytes file
  -- a file's bytes are read as it
  pub only : (file : RecordFile) → IsFile known limit bytes file → file_of known limit bytes
      ≡ Ok file
  -- a fault is the first
  pub first : (fault : FileFault) → file_of known limit bytes ≡ Err fault
      → HasFault known limit bytes fault
  -- bytes with a fault are no file's
  pub excluded : (fault : FileFault) (file : RecordFile) → file_of known limit bytes ≡ Err fault
      → IsFile known limit bytes file → ⊥

-- bytes without a fault are the file that is read, and bytes with one are none
abbrev pub FilesAreExact : Type 0
FilesAreExact =
    (known : List KnownFormat) (limit : ℕ) (bytes : List ℕ) → limit < 2 ^ 32
    → All (λ byte. byte < 256) bytes → IsExact known limit bytes

-- what is written of a file is read as it, where known identifiers differ and its records are
-- within the limit
abbrev pub FilesReadBack : Type 0
FilesReadBack =
    (known : List KnownFormat) (limit : ℕ) (file : RecordFile) → limit < 2 ^ 32 → All HasId known
    → AllPairs (λ (one other : KnownFormat). one.id.0 ≢ other.id.0) known → IsWhole known file
    → All (IsWithin limit) file.items
    → file_of known limit (written known file) ≡ Ok file
