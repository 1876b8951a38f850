-- What a job document states, in the order of reading: its head, its stones, its rounds, whether it
-- has further members, and then its graph and its routes.
use Rattle.std.specs.Prelude.{◌≡◌, ◌≢◌, ℕ, ◌<◌, ◌≤◌, List, [], ◌∷◌, length, codes, None}
use Rattle.std.specs.Prelude.{Result, Ok, Err, IsUtf8}
use Rattle.evp_base.specs.declared.step.Step.TheVariants.{Field}
use Rattle.evp_graph.specs.Fault.{IsFault}
use Rattle.evp_graph.specs.Routes.{routes_of}
use Rattle.evp_graph.specs.Shape.{Shape, IsSound}
use Rattle.evp_graph.specs.declared.fault.GraphFault.{GraphFault}
use Rattle.evp_graph.specs.declared.fault.GraphFault.TheVariants as graph
use Rattle.evp_graph.specs.declared.route.Route.{Route}
use Rattle.evp_job.specs.declared.fault.JobFault.{JobFault}
use Rattle.evp_job.specs.declared.fault.JobFault.TheVariants as fault
use Rattle.evp_job.specs.declared.job.ReadJob.{ReadJob}
use Rattle.evp_job.specs.declared.job.ReadJob.TheVariants.{NotJson, Job, Memory}
use Rattle.evp_job.specs.Expressions.{Reading}
use Rattle.evp_job.specs.Forms.{no_others}
use Rattle.evp_job.specs.Head.{HeadShape, head_in, IsTextOf}
use Rattle.evp_job.specs.Rounds.{rounds_in}
use Rattle.evp_job.specs.Steps.{◌>>=◌, under}
use Rattle.evp_job.specs.Stones.{stones_in}
use Rattle.evp_job.specs.TextShape.{StoneShape, TextShape, text_with, graph_with}
use Rattle.evp_stone.specs.declared.round.Round.{Round}
use Rattle.serde_json.specs.Data.{Data}
use Rattle.serde_json.specs.Find.{get}
use Rattle.serde_json.specs.Read.{read}

-- a job but for its routes
pub record PartsShape : Type 0 where
  pub head : HeadShape
  pub stones : List StoneShape
  pub rounds : List Round

abbrev pub parts_with : HeadShape → List StoneShape → List Round → PartsShape
parts_with head stones rounds = record { head = head; stones = stones; rounds = rounds }

abbrev pub job_members : List (List ℕ)
job_members = codes "limit" ∷ codes "queue" ∷ codes "formats" ∷ codes "sources" ∷ codes "stones"
    ∷ codes "rounds" ∷ []

unfoldable pub parts_in : Reading → Data → Result PartsShape JobFault
parts_in reading value = do
  head ← head_in value
  stones ← under (Field (codes "stones"))
      (stones_in reading head.formats (get (codes "stones") value))
  rounds ← under (Field (codes "rounds"))
      (rounds_in (length head.sources) (length stones) (get (codes "rounds") value))
  alone ← no_others job_members value
  Ok (parts_with head stones rounds)

-- ---- the graph and its routes

abbrev pub graph_of_parts : PartsShape → Shape
graph_of_parts parts = graph_with parts.head.sources parts.stones

abbrev pub routed : PartsShape → List Route → TextShape
routed parts routes = text_with parts.head parts.stones parts.rounds routes

-- parts whose graph has no cycle and few routes are a job; of a graph's faults that are cycles each
-- may be named
abbrev pub IsRouted : PartsShape → Result TextShape JobFault → Type 0
IsRouted parts (Ok text) =
    IsSound (graph_of_parts parts) × (length (routes_of (graph_of_parts parts)) ≤ 1024)
    × (text ≡ routed parts (routes_of (graph_of_parts parts)))
IsRouted parts (Err (fault.Graph cause)) =
    (cause ≢ graph.Memory) × IsFault (graph_of_parts parts) cause
IsRouted parts (Err fault.Routes) =
    IsSound (graph_of_parts parts) × (1024 < length (routes_of (graph_of_parts parts)))
IsRouted parts (Err cause) = ⊥

-- the job that these parts make, or the first fault
abbrev pub IsMadeOf : Result PartsShape JobFault → Result TextShape JobFault → Type 0
IsMadeOf (Ok parts) answer = IsRouted parts answer
IsMadeOf (Err cause) answer = answer ≡ Err cause

-- the job that a JSON value states, or its first fault
abbrev pub IsStatedBy : Data → Result TextShape JobFault → Type 0
IsStatedBy value answer = (reading : Reading) × IsMadeOf (parts_in reading value) answer

-- the bytes state this job, or are refused with this fault
abbrev pub StatesJob : List ℕ → Result TextShape JobFault → Type 0
StatesJob bytes answer = (value : Data) × IsTextOf bytes value × IsStatedBy value answer

-- the cause is that of these bytes: a document's first fault, no JSON, or want of memory, of which
-- nothing is said
abbrev pub IsRefusalOf : List ℕ → ReadJob → Type 0
IsRefusalOf bytes NotJson = IsUtf8 bytes → read bytes ≡ None
IsRefusalOf bytes (Job cause) = StatesJob bytes (Err cause)
IsRefusalOf bytes Memory = Unit {0}
