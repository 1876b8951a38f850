-- The job that a document makes with the files of its sources, or the first reason why it makes
-- none.
use Rattle.std.specs.Prelude.{◌≡◌, ℕ, ◌+◌, ◌*◌, ◌^◌, ◌<◌, Bool, true, false, nat_le, List, []}
use Rattle.std.specs.Prelude.{◌∷◌, ◌++◌, length, map, codes, slice_index, All, Result, Ok}
use Rattle.std.specs.List.{flat_map, sum}
use Rattle.evp_base.specs.declared.step.Step.TheVariants.{Field}
use Rattle.evp_file.specs.declared.file.FileFormat.{FileFormat}
use Rattle.evp_file.specs.declared.file.FileFormat.TheVariants.{Own, Known}
use Rattle.evp_file.specs.declared.file.FileItem.{FileItem}
use Rattle.evp_file.specs.declared.file.RecordFile.{RecordFile}
use Rattle.evp_file.specs.Whole.{IsWhole}
use Rattle.evp_format.specs.Layout.{Layout}
use Rattle.evp_job.specs.declared.fault.JobFault.{JobFault}
use Rattle.evp_job.specs.declared.fault.JobFault.TheVariants as fault
use Rattle.evp_job.specs.declared.job_text.JobText.{JobText}
use Rattle.evp_job.specs.declared.sources.SourceText.{SourceText}
use Rattle.evp_job.specs.Stated.{layouts_of}
use Rattle.evp_job.specs.Steps.{◌>>=◌, only_if}
use Rattle.evp_record.specs.Owned.{owned_of}
use Rattle.evp_record.specs.OwnedBytes.{OwnedBytes}
use Rattle.evp_stone.specs.declared.round.Round.{Round}
use Rattle.evp_stone.specs.declared.source.Source.{Source}
use Rattle.evp_stone.specs.Job.{submits, carried}
use Rattle.evp_stone.specs.JobShape.{JobShape}

-- ---- a document without its files

-- a source without records
abbrev pub bare_source : SourceText → Source
bare_source source = record { name = source.name; stone = source.stone; items = [] }

-- the job that a document states, as long as no file has anything
abbrev pub bare_job : JobText → JobShape
bare_job text = record {
  formats = layouts_of text.formats.items;
  declared = length text.formats.items;
  limit = text.limit;
  queue = text.queue;
  sources = map bare_source text.sources.items;
  stones = text.stones.items;
  rounds = text.rounds.items;
  routes = text.routes;
}

-- a file for each source, read with the formats that the document declares
pub record AreFilesOf (text : JobText) (files : List RecordFile) : Type 0 where
  pub each_source : length files ≡ length text.sources.items
  pub whole : All (IsWhole text.formats.items) files

-- each record names a format of its file, and has fewer than 2^32 bytes
pub record HasRecords (file : RecordFile) : Type 0 where
  pub there : All (λ (item : FileItem). item.format < length file.formats) file.items
  pub short : All (λ (item : FileItem). length item.bytes < 2 ^ 32) file.items

-- ---- formats

-- the file itself describes the format
abbrev pub is_own : FileFormat → Bool
is_own (Own layout) = true
is_own (Known k) = false

-- its layout then
abbrev pub own_layout : FileFormat → List Layout
own_layout (Own layout) = layout ∷ []
own_layout (Known k) = []

abbrev pub own_layouts : RecordFile → List Layout
own_layouts file = flat_map own_layout file.formats

-- the declared formats, then those of each file
abbrev pub all_layouts : List Layout → List RecordFile → List Layout
all_layouts declared files = declared ++ flat_map own_layouts files

-- the job's number of a file's format: that of a declared one, or else the next number
abbrev pub number_of : ℕ → FileFormat → ℕ
number_of next (Own layout) = next
number_of next (Known k) = k

-- the job's numbers of a file's formats
abbrev pub numbers_from : ℕ → List FileFormat → List ℕ
numbers_from next [] = []
numbers_from next (format ∷ formats) =
    number_of next format ∷ numbers_from (next + length (own_layout format)) formats

-- ---- records

-- a record of a file whose formats have these numbers
abbrev pub owned_with : List ℕ → FileItem → OwnedBytes
owned_with numbers item = owned_of (slice_index numbers item.format) item.bytes

-- the source with its file's records, where the file's own formats begin at this number
abbrev pub source_with_file : ℕ → Source → RecordFile → Source
source_with_file next source file = record {
  name = source.name;
  stone = source.stone;
  items = map (owned_with (numbers_from next file.formats)) file.items;
}

-- each source with its file
abbrev pub sources_with_files : ℕ → List Source → List RecordFile → List Source
sources_with_files next [] files = []
sources_with_files next (source ∷ sources) [] = []
sources_with_files next (source ∷ sources) (file ∷ files) = source_with_file next source file
    ∷ sources_with_files (next + length (own_layouts file)) sources files

-- the job with its files
abbrev pub job_with_files : JobShape → List RecordFile → JobShape
job_with_files job files = record job {
  formats = all_layouts job.formats files;
  sources = sources_with_files (length job.formats) job.sources files;
}

-- ---- what may be refused

-- 1,024 formats in all
abbrev pub few_formats : ℕ → Result (Unit {0}) JobFault
few_formats formats = only_if (nat_le formats 1024)
    (fault.Limit (Field (codes "formats") ∷ []) formats)

-- a source submits no more records than its file has
abbrev pub enough_records : ℕ → ℕ → ℕ → Result (Unit {0}) JobFault
enough_records source asked there = only_if (nat_le asked there)
    (fault.Submit source asked there)

-- no source does; the number is that of the first file's source
abbrev pub enough_from : List Round → ℕ → List RecordFile → Result (Unit {0}) JobFault
enough_from rounds source [] = Ok tt
enough_from rounds source (file ∷ files) =
    enough_records source (sum (submits source rounds)) (length file.items)
    >>= λ _. enough_from rounds (source + 1) files

-- what all routes carry takes no more than 2^31 bytes, with 256 beside each record
abbrev pub light_enough : ℕ → ℕ → Result (Unit {0}) JobFault
light_enough records limit = only_if (nat_le (records * (limit + 256)) (2 ^ 31))
    (fault.Carriage records limit)

-- the files are right for the job
abbrev pub agree : JobShape → List RecordFile → Result (Unit {0}) JobFault
agree job files = do
  few ← few_formats (length (all_layouts job.formats files))
  enough ← enough_from job.rounds 0 files
  light_enough (carried job) job.limit

-- the job with these files, or the first refusal
unfoldable pub filled : JobShape → List RecordFile → Result JobShape JobFault
filled job files = do
  right ← agree job files
  Ok (job_with_files job files)
