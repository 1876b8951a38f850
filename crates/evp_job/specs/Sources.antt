-- The sources of a job document.
use Rattle.std.specs.Prelude.{ℕ, not, ◌&&◌, nat_le, List, [], ◌∷◌, ◌++◌, length, map, codes, Option}
use Rattle.std.specs.Prelude.{Result, Ok}
use Rattle.evp_base.specs.declared.step.Step.TheVariants.{Field, Index}
use Rattle.serde_json.specs.Data.{Data}
use Rattle.serde_json.specs.Find.{get}
use Rattle.evp_job.specs.declared.fault.JobFault.{JobFault}
use Rattle.evp_job.specs.declared.fault.JobFault.TheVariants as fault
use Rattle.evp_job.specs.Formats.{is_among}
use Rattle.evp_job.specs.Forms.{misformed, number_within, text_in, name_in, list_within, object_in}
use Rattle.evp_job.specs.Forms.{no_others}
use Rattle.evp_job.specs.Steps.{◌>>=◌, only_if, under, all_from}

-- a source: its name, its file's name, and the number of its stone
pub record SourceShape : Type 0 where
  pub name : List ℕ
  pub file : List ℕ
  pub stone : ℕ

abbrev pub source_with : List ℕ → List ℕ → ℕ → SourceShape
source_with name file stone = record { name = name; file = file; stone = stone }

-- a text of 1 to 255 bytes
unfoldable pub file_name_in : Option Data → Result (List ℕ) JobFault
file_name_in value = do
  text ← text_in value
  right ← only_if (nat_le 1 (length text) && nat_le (length text) 255) misformed
  Ok text

unfoldable pub source_in : Data → Result SourceShape JobFault
source_in value = do
  object ← object_in value
  name ← under (Field (codes "name")) (name_in (get (codes "name") object))
  file ← under (Field (codes "file")) (file_name_in (get (codes "file") object))
  stone ← under (Field (codes "stone")) (number_within 0 65535 (get (codes "stone") object))
  alone ← no_others (codes "name" ∷ codes "file" ∷ codes "stone" ∷ []) object
  Ok (source_with name file stone)

abbrev pub names_of : List SourceShape → List (List ℕ)
names_of sources = map (λ (source : SourceShape). source.name) sources

-- one source more, whose name no earlier one has
unfoldable pub next_source : ℕ → List SourceShape → Data → Result (List SourceShape) JobFault
next_source k done value = do
  source ← under (Index k) (source_in value)
  fresh ← only_if (not (is_among source.name (names_of done)))
      (fault.Twice (Index k ∷ Field (codes "name") ∷ []))
  Ok (done ++ source ∷ [])

unfoldable pub sources_in : Option Data → Result (List SourceShape) JobFault
sources_in value = do
  values ← list_within 1 64 value
  all_from next_source 0 [] values
