-- The sources of the large job, with the generator's files.
use Rattle.std.specs.Prelude.{◌≡◌, ℕ, ◌+◌, ◌≤◌, List, [], ◌∷◌, ◌++◌, length, map, get_or, Result, Ok}
use Rattle.std.specs.Prelude.{IfOk, slice_get, Some}
use Rattle.std.specs.List.{All, flat_map}
use Rattle.evp_base.specs.declared.memory.Memory.{Memory}
use Rattle.evp_file.specs.declared.file.FileFormat.TheVariants.{Own}
use Rattle.evp_file.specs.declared.file.KnownFormat.{KnownFormat}
use Rattle.evp_file.specs.declared.file.RecordFile.{RecordFile}
use Rattle.evp_file.specs.Reading.{file_of}
use Rattle.evp_file.specs.Whole.{IsWhole}
use Rattle.evp_format.specs.Layout.{Layout}
use Rattle.evp_gen.specs.Senders.{all_sent}
use Rattle.evp_job.specs.declared.job_text.JobText.{JobText}
use Rattle.evp_job.specs.declared.sources.SourceText.{SourceText}
use Rattle.evp_job.specs.Filling.{bare_job, bare_source, own_layouts, source_with_file}
use Rattle.evp_job.specs.Filling.{sources_with_files}
use Rattle.evp_job.specs.Stated.{layouts_of}
use Rattle.evp_stone.specs.declared.source.Source.{Source}
use Rattle.evp_stone.specs.JobShape.{JobShape}
use Rattle.evp_stones.specs.Accepted.{AreRead, IsReadable}
use Rattle.evp_stones.specs.declared.bench.made_job.MadeSources.{MadeSources}
use Rattle.evp_stones.specs.declared.bench.made_source.MadeSource.{MadeSource}

-- the file describes its one format
abbrev pub HasOneFormat : RecordFile → Type 0
HasOneFormat file = (layout : Layout) × (file.formats ≡ Own layout ∷ [])

-- the bytes are such a file, and few enough to be read
abbrev pub IsOneFile : List KnownFormat → ℕ → List ℕ → Type 0
IsOneFile known limit bytes = IsReadable known limit bytes
    × ((file : RecordFile) → file_of known limit bytes ≡ Ok file → HasOneFormat file)

-- the files of so many records can be made, and read for this document's sources
pub record IsMakeable (text : JobText) (records : ℕ) : Type 0 where
  pub few : records ≤ 20000
  pub formats : length text.formats.items ≤ 256
  pub sources : length text.sources.items ≡ 4
  pub files : All (IsOneFile text.formats.items text.limit) (all_sent records)

-- the source is filled with the records of its file, whose one format has this number
pub record IsFilledBy (number : ℕ) (source : Source) (file : RecordFile) (made : MadeSource)
    : Type 0 where
  pub own : file.formats ≡ Own made.format ∷ []
  pub filled : made.source ≡ source_with_file number source file

-- ... which is the file of these bytes
pub record IsFilledFrom (text : JobText) (source : ℕ) (bytes : List ℕ) (made : MadeSource)
    : Type 0 where
  pub file : RecordFile
  pub read : file_of text.formats.items text.limit bytes ≡ Ok file
  pub whole : IsWhole text.formats.items file
  pub named : SourceText
  pub there : slice_get text.sources.items source ≡ Some named
  pub by_it : IsFilledBy (length text.formats.items + source) (bare_source named) file made

-- this is the source of this number, if memory was found
abbrev pub IsMade : JobText → ℕ → ℕ → Result MadeSource Memory → Type 0
IsMade text records source result =
    IfOk result (IsFilledFrom text source (get_or (all_sent records) source []))

-- all sources, each with its file, and the formats of these
pub record AreMade (text : JobText) (records : ℕ) (made : MadeSources) : Type 0 where
  pub files : List RecordFile
  pub read : AreRead text.formats.items text.limit (all_sent records) files
  pub whole : All (IsWhole text.formats.items) files
  pub formats : made.formats.items ≡ flat_map own_layouts files
  pub sources : made.sources.items ≡ sources_with_files (length (layouts_of text.formats.items))
      (map bare_source text.sources.items) files

-- the job of a document with these sources and their formats
abbrev pub joined : JobText → MadeSources → JobShape
joined text made = record (bare_job text) {
  formats = layouts_of text.formats.items ++ made.formats.items;
  sources = made.sources.items;
}
