-- What a job document begins with, in the order of reading: the limits, the formats, the sources.
use Rattle.std.specs.Prelude.{◌≡◌, ℕ, List, codes, Option, Some, None, Result, Ok, IsUtf8}
use Rattle.evp_base.specs.declared.step.Step.TheVariants.{Field}
use Rattle.serde_json.specs.Data.{Data}
use Rattle.serde_json.specs.Find.{get}
use Rattle.serde_json.specs.Read.{read}
use Rattle.evp_job.specs.declared.fault.JobFault.{JobFault}
use Rattle.evp_job.specs.Formats.{Named, formats_in}
use Rattle.evp_job.specs.Forms.{number_within, object_in}
use Rattle.evp_job.specs.Sources.{SourceShape, sources_in}
use Rattle.evp_job.specs.Steps.{◌>>=◌, under}

pub record HeadShape : Type 0 where
  pub limit : ℕ
  pub queue : ℕ
  pub formats : Named
  pub sources : List SourceShape

abbrev pub head_with : ℕ → ℕ → Named → List SourceShape → HeadShape
head_with limit queue formats sources =
    record { limit = limit; queue = queue; formats = formats; sources = sources }

-- a number of this range, or the usual one where there is none
abbrev pub number_or : ℕ → ℕ → ℕ → Option Data → Result ℕ JobFault
number_or usual least greatest None = Ok usual
number_or usual least greatest (Some value) = number_within least greatest (Some value)

unfoldable pub head_in : Data → Result HeadShape JobFault
head_in value = do
  object ← object_in value
  limit ← under (Field (codes "limit")) (number_or 4096 64 262144 (get (codes "limit") object))
  queue ← under (Field (codes "queue")) (number_or 64 1 4096 (get (codes "queue") object))
  formats ← under (Field (codes "formats")) (formats_in limit (get (codes "formats") object))
  sources ← under (Field (codes "sources")) (sources_in (get (codes "sources") object))
  Ok (head_with limit queue formats sources)

-- the bytes are a text with this value
pub record IsTextOf (bytes : List ℕ) (value : Data) : Type 0 where
  pub utf8 : IsUtf8 bytes
  pub read_as : read bytes ≡ Some value
