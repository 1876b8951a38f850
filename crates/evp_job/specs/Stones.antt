-- The stones of a job document. Each kind has members of its own; what its expressions and settings
-- mean is looked at behind them.
use Rattle.std.specs.Prelude.{ℕ, suc, List, [], ◌∷◌, ◌++◌, codes, Option, Some, None}
use Rattle.std.specs.Prelude.{Result, Ok, if◌then◌else◌}
use Rattle.std.specs.Option.{ok_or}
use Rattle.evp_base.specs.declared.step.Step.TheVariants.{Field, Index}
use Rattle.evp_file.specs.declared.file.KnownFormat.{KnownFormat}
use Rattle.evp_format.specs.Bytes.{bytes_equal}
use Rattle.evp_format.specs.Layout.{Layout}
use Rattle.evp_job.specs.declared.fault.JobFault.{JobFault}
use Rattle.evp_job.specs.declared.fault.JobFault.TheVariants as fault
use Rattle.evp_job.specs.declared.kinds.StoneKind.{StoneKind}
use Rattle.evp_job.specs.declared.kinds.StoneKind.TheVariants as kind
use Rattle.evp_job.specs.Expressions.{Reading, expression_in}
use Rattle.evp_job.specs.Formats.{Named}
use Rattle.evp_job.specs.Kinds.{kind_in}
use Rattle.evp_job.specs.Forms.{text_in, number_within, list_within, object_in}
use Rattle.evp_job.specs.Forms.{no_others}
use Rattle.evp_job.specs.Settings.{settings_in, all_set}
use Rattle.evp_job.specs.Steps.{◌>>=◌, under, all_from, each_in}
use Rattle.evp_job.specs.TextShape.{StoneShape, stone_with, filter, router, transform, split}
use Rattle.evp_job.specs.TextShape.{terminal}
use Rattle.serde_json.specs.Data.{Data}
use Rattle.serde_json.specs.Find.{get}

-- ---- formats by their names

-- a declared format: its number and its layout
pub record Declared : Type 0 where
  pub number : ℕ
  pub layout : Layout

abbrev pub declared_with : ℕ → Layout → Declared
declared_with number layout = record { number = number; layout = layout }

-- the first of these formats that has this name, where k is the number of the first
abbrev pub named_from : List ℕ → ℕ → List (List ℕ) → List KnownFormat → Option Declared
named_from name k [] known = None
named_from name k (other ∷ names) [] = None
named_from name k (other ∷ names) (format ∷ known) =
    if bytes_equal name other then Some (declared_with k format.format)
    else named_from name (suc k) names known

unfoldable pub declared_in : Named → Option Data → Result Declared JobFault
declared_in formats value = do
  name ← text_in value
  ok_or (named_from name 0 formats.names formats.known) (fault.UnknownFormat [])

-- the format that this member names
abbrev pub format_at : List ℕ → Named → Data → Result Declared JobFault
format_at key formats stone = under (Field key) (declared_in formats (get key stone))

-- ---- targets

unfoldable pub stone_number : Data → Result ℕ JobFault
stone_number value = number_within 0 65535 (Some value)

unfoldable pub targets_in : Option Data → Result (List ℕ) JobFault
targets_in value = do
  values ← list_within 0 16 value
  each_in stone_number values

abbrev pub targets_at : Data → Result (List ℕ) JobFault
targets_at stone = under (Field (codes "targets")) (targets_in (get (codes "targets") stone))

abbrev pub target_at : Data → Result ℕ JobFault
target_at stone = under (Field (codes "target")) (number_within 0 65535 (get (codes "target") stone))

abbrev pub text_at : List ℕ → Data → Result (List ℕ) JobFault
text_at key stone = under (Field key) (text_in (get key stone))

-- ---- the five kinds; k is the number of the stone

unfoldable pub terminal_in : Named → Data → Result StoneShape JobFault
terminal_in formats stone = do
  format ← format_at (codes "format") formats stone
  alone ← no_others (codes "kind" ∷ codes "format" ∷ []) stone
  Ok (stone_with (terminal format.number) [])

unfoldable pub filter_in : Reading → Named → ℕ → Data → Result StoneShape JobFault
filter_in reading formats k stone = do
  format ← format_at (codes "format") formats stone
  text ← text_at (codes "expr") stone
  target ← target_at stone
  alone ← no_others (codes "kind" ∷ codes "format" ∷ codes "expr" ∷ codes "target" ∷ []) stone
  test ← expression_in reading k 0 format.layout text
  Ok (stone_with (filter format.number test) (target ∷ []))

unfoldable pub router_in : Reading → Named → ℕ → Data → Result StoneShape JobFault
router_in reading formats k stone = do
  format ← format_at (codes "format") formats stone
  text ← text_at (codes "expr") stone
  targets ← targets_at stone
  alone ← no_others (codes "kind" ∷ codes "format" ∷ codes "expr" ∷ codes "targets" ∷ []) stone
  choose ← expression_in reading k 0 format.layout text
  Ok (stone_with (router format.number choose) targets)

unfoldable pub split_in : Data → Result StoneShape JobFault
split_in stone = do
  targets ← targets_at stone
  alone ← no_others (codes "kind" ∷ codes "targets" ∷ []) stone
  Ok (stone_with split targets)

unfoldable pub transform_in : Reading → Named → ℕ → Data → Result StoneShape JobFault
transform_in reading formats k stone = do
  format ← format_at (codes "format") formats stone
  into ← format_at (codes "into") formats stone
  settings ← under (Field (codes "set")) (settings_in (get (codes "set") stone))
  target ← target_at stone
  alone ← no_others (codes "kind" ∷ codes "format" ∷ codes "into" ∷ codes "set" ∷ codes "target"
      ∷ []) stone
  set ← all_set reading k format.layout into.layout settings
  Ok (stone_with (transform format.number into.number set) (target ∷ []))

-- ---- a stone, and all

abbrev pub of_kind : Reading → Named → ℕ → Data → StoneKind → Result StoneShape JobFault
of_kind reading formats k stone kind.Terminal = terminal_in formats stone
of_kind reading formats k stone kind.Filter = filter_in reading formats k stone
of_kind reading formats k stone kind.Router = router_in reading formats k stone
of_kind reading formats k stone kind.Split = split_in stone
of_kind reading formats k stone kind.Transform = transform_in reading formats k stone

unfoldable pub stone_in : Reading → Named → ℕ → Data → Result StoneShape JobFault
stone_in reading formats k value = do
  object ← object_in value
  kind ← under (Field (codes "kind")) (kind_in (get (codes "kind") object))
  of_kind reading formats k object kind

-- stone k behind those before it
unfoldable pub next_stone : Reading → Named → ℕ → List StoneShape → Data
    → Result (List StoneShape) JobFault
next_stone reading formats k done value = do
  stone ← under (Index k) (stone_in reading formats k value)
  Ok (done ++ stone ∷ [])

unfoldable pub stones_in : Reading → Named → Option Data → Result (List StoneShape) JobFault
stones_in reading formats value = do
  values ← list_within 1 256 value
  all_from (next_stone reading formats) 0 [] values
