-- What `check JOB` answers: the job's formats with their identifiers, and its routes.
use Rattle.std.specs.Prelude.{◌≡◌, ℕ, List, [], ◌++◌, codes, Option, Some, None, slice_get, Result}
use Rattle.std.specs.List.{flat_map}
use Rattle.hex.specs.Hex.{encode_lower}
use Rattle.evp_depot.specs.Files.{Files}
use Rattle.evp_file.specs.declared.file.KnownFormat.{KnownFormat}
use Rattle.evp_graph.specs.declared.route.Route.{Route}
use Rattle.evp_job.specs.Sources.{SourceShape}
use Rattle.evp_job.specs.TextShape.{TextShape}
use Rattle.evp_report.specs.Report.{line_end, stones_text}
use Rattle.evp_stones.specs.declared.refusal.Refusal.{Refusal}
use Rattle.evp_stones.specs.JobText.{IsJobOf}
use Rattle.evp_stones.specs.Numbered.{numbered}
use Rattle.evp_stones.specs.Steps.{seen_by}

-- `format NAME HEX`
abbrev pub known_line : List ℕ → KnownFormat → List ℕ
known_line name known = codes "format " ++ name ++ codes " " ++ encode_lower known.id.0 ++ line_end

abbrev pub declared_line : List ℕ → Option KnownFormat → List ℕ
declared_line name None = []
declared_line name (Some known) = known_line name known

-- by the name of a format, and its number
abbrev pub declared_in : List KnownFormat → ℕ → List ℕ → List ℕ
declared_in formats number name = declared_line name (slice_get formats number)

abbrev pub source_text : Option SourceShape → List ℕ
source_text None = []
source_text (Some source) = source.name

-- `route ROUTE`: the source's name and the numbers of the stones, joined by `>`
abbrev pub route_line : List SourceShape → Route → List ℕ
route_line sources route = codes "route " ++ source_text (slice_get sources route.source)
    ++ stones_text route.stones ++ line_end

abbrev pub check_text : TextShape → List ℕ
check_text text = numbered (declared_in text.formats) 0 text.names
    ++ flat_map (route_line text.sources) text.routes

-- the formats and routes of the job of this name, or why there is none
pub record IsCheck (name : List ℕ) (files : Files) (answer : Result (List ℕ) Refusal) : Type 0 where
  pub job : Result TextShape Refusal
  pub is : IsJobOf name files job
  pub answered : answer ≡ seen_by check_text job
