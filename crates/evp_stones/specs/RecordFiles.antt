-- The record files of a job's sources: each is fetched and read, in the order of sources.
use Rattle.std.specs.Prelude.{◌≡◌, ℕ, List, [], ◌∷◌, take, slice_get, Some, Result, Ok}
use Rattle.evp_depot.specs.Files.{Files}
use Rattle.evp_file.specs.declared.file.KnownFormat.{KnownFormat}
use Rattle.evp_file.specs.declared.file.RecordFile.{RecordFile}
use Rattle.evp_file.specs.Reading.{file_of}
use Rattle.evp_stones.specs.declared.refusal.Refusal.{Refusal}
use Rattle.evp_stones.specs.Fetching.{fetched, longest_file, IsHeld}
use Rattle.evp_stones.specs.Show.{data_of}
use Rattle.evp_stones.specs.Steps.{◌>>=◌}

-- the file of this name, read with these formats and with this longest record
abbrev pub file_named : List KnownFormat → ℕ → Files → List ℕ → Result RecordFile Refusal
file_named known limit files name = do
  bytes ← fetched files longest_file name
  data_of name (file_of known limit bytes)

-- the files of these names, or the first refusal
abbrev pub files_named : List KnownFormat → ℕ → Files → List (List ℕ)
    → Result (List RecordFile) Refusal
files_named known limit files [] = Ok []
files_named known limit files (name ∷ names) = do
  file ← file_named known limit files name
  others ← files_named known limit files names
  Ok (file ∷ others)

-- The name is one of these, the files before it are sound, and it is held.
pub record IsNext (known : List KnownFormat) (limit : ℕ) (names : List (List ℕ)) (files : Files)
    (name : List ℕ) : Type 0 where
  pub number : ℕ
  pub before : List RecordFile
  pub sound : files_named known limit files (take number names) ≡ Ok before
  pub wanted : List ℕ
  pub there : slice_get names number ≡ Some wanted
  pub held : IsHeld wanted files name
