-- The formats that a job document declares.
use Rattle.std.specs.Prelude.{ℕ, ◌-◌, Bool, not, nat_le, if◌then◌else◌, List, [], ◌∷◌, ◌++◌, length}
use Rattle.std.specs.Prelude.{Option, Some, None}
use Rattle.std.specs.Prelude.{option_map, unwrap_or, slice_get, codes, Result, Ok, Err}
use Rattle.std.specs.List.{list_any}
use Rattle.std.specs.Option.{ok_or}
use Rattle.sha2.specs.Sha256.{sha256}
use Rattle.evp_base.specs.declared.step.Step.TheVariants.{Field, Index}
use Rattle.evp_format.specs.declared.layout_fault.LayoutFault.{LayoutFault}
use Rattle.evp_format.specs.declared.record_type.RecordType.{RecordType}
use Rattle.evp_format.specs.Bytes.{bytes_equal}
use Rattle.evp_format.specs.Describing.{describe}
use Rattle.evp_format.specs.Layout.{Layout}
use Rattle.evp_file.specs.declared.file.KnownFormat.{KnownFormat}
use Rattle.evp_profile.specs.declared.profile.Profile.{Profile}
use Rattle.evp_profile.specs.declared.profile.Profile.TheVariants.{Le64, Le32, Be64, Be32}
use Rattle.evp_profile.specs.Declarations.{DeclaredType}
use Rattle.evp_profile.specs.LayingOut.{by_profile}
use Rattle.serde_json.specs.Data.{Data}
use Rattle.serde_json.specs.Find.{get}
use Rattle.evp_job.specs.declared.fault.JobFault.{JobFault}
use Rattle.evp_job.specs.declared.fault.JobFault.TheVariants as fault
use Rattle.evp_job.specs.Forms.{misformed, text_in, name_in, list_within, object_in, no_others}
use Rattle.evp_job.specs.Steps.{◌>>=◌, only_if, under, all_from}
use Rattle.evp_job.specs.Types.{types_in}

-- ---- what a format says

pub record FormatText : Type 0 where
  pub name : List ℕ
  pub profile : Profile
  pub types : List DeclaredType

abbrev pub format_text : List ℕ → Profile → List DeclaredType → FormatText
format_text name profile types = record { name = name; profile = profile; types = types }

abbrev pub profile_named : List ℕ → Option Profile
profile_named text =
    if bytes_equal text (codes "le64") then Some Le64 else
    (if bytes_equal text (codes "le32") then Some Le32 else
    (if bytes_equal text (codes "be64") then Some Be64 else
    (if bytes_equal text (codes "be32") then Some Be32 else None)))

unfoldable pub profile_in : Option Data → Result Profile JobFault
profile_in value = do
  text ← text_in value
  ok_or (profile_named text) misformed

unfoldable pub format_in : Data → Result FormatText JobFault
format_in value = do
  object ← object_in value
  name ← under (Field (codes "name")) (name_in (get (codes "name") object))
  profile ← under (Field (codes "profile")) (profile_in (get (codes "profile") object))
  types ← under (Field (codes "types")) (types_in (get (codes "types") object))
  alone ← no_others (codes "name" ∷ codes "profile" ∷ codes "types" ∷ []) object
  Ok (format_text name profile types)

-- ---- formats by names

-- the formats so far: their names, and their layouts with identifiers
pub record Named : Type 0 where
  pub names : List (List ℕ)
  pub known : List KnownFormat

abbrev pub named_with : List (List ℕ) → List KnownFormat → Named
named_with names known = record { names = names; known = known }

-- one of these names
abbrev pub is_among : List ℕ → List (List ℕ) → Bool
is_among name names = list_any (bytes_equal name) names

abbrev pub laid : ℕ → Result Layout LayoutFault → Result Layout JobFault
laid k (Ok layout) = Ok layout
laid k (Err cause) = Err (fault.Layout k cause)

-- bytes of the record's fixed part
abbrev pub record_length : Layout → ℕ
record_length layout = unwrap_or (option_map (λ (type : RecordType). type.length)
    (slice_get layout.types (length layout.types - 1))) 0

-- a layout with its identifier, the SHA-256 of its description
abbrev pub known_format : Layout → KnownFormat
known_format layout = record { format = layout; id = record { 0 = sha256 (describe layout) } }

-- format k, where the earlier names are these: fresh, well laid, and within the limit
unfoldable pub new_format : ℕ → ℕ → List (List ℕ) → FormatText → Result KnownFormat JobFault
new_format limit k names text = do
  fresh ← only_if (not (is_among text.name names))
      (fault.Twice (Index k ∷ Field (codes "name") ∷ []))
  layout ← laid k (by_profile text.profile text.types)
  short ← only_if (nat_le (record_length layout) limit) (fault.RecordLength k)
  Ok (known_format layout)

-- format k more
unfoldable pub next_format : ℕ → ℕ → Named → Data → Result Named JobFault
next_format limit k done value = do
  text ← under (Index k) (format_in value)
  format ← new_format limit k done.names text
  Ok (named_with (done.names ++ text.name ∷ []) (done.known ++ format ∷ []))

abbrev pub none_named : Named
none_named = named_with [] []

unfoldable pub formats_in : ℕ → Option Data → Result Named JobFault
formats_in limit value = do
  values ← list_within 0 256 value
  all_from (next_format limit) 0 none_named values
