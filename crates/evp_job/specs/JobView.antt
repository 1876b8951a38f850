-- A job's parts as they are kept, and what calls answer of them; of want of memory nothing is said.
use Rattle.std.specs.Prelude.{◌≡◌, ◌≢◌, Result, Ok, Err}
use Rattle.evp_graph.specs.declared.route.Route.{Route}
use Rattle.evp_graph.specs.Routes.{ListsRoutes}
use Rattle.evp_graph.specs.Shape.{Shape}
use Rattle.evp_job.specs.declared.fault.JobFault.{JobFault}
use Rattle.evp_job.specs.declared.fault.JobFault.TheVariants as fault
use Rattle.evp_job.specs.declared.job_text.JobText.{JobText}
use Rattle.evp_job.specs.declared.parts.Parts.{Parts}
use Rattle.evp_job.specs.HeadView.{head_of}
use Rattle.evp_job.specs.Job.{PartsShape, parts_with, IsRouted, IsStatedBy}
use Rattle.evp_job.specs.TextView.{stones_of, text_of}
use Rattle.serde_json.specs.Data.{Data}

abbrev pub parts_of : Parts → PartsShape
parts_of parts = parts_with (head_of parts.head) (stones_of parts.stones.items) parts.rounds.items

-- these parts make this job, or are refused with this fault
abbrev pub Makes : PartsShape → Result JobText JobFault → Type 0
Makes parts (Ok text) = IsRouted parts (Ok (text_of text))
Makes parts (Err cause) = cause ≢ fault.Memory → IsRouted parts (Err cause)

-- the value states this job, or is refused with this fault
abbrev pub States : Data → Result JobText JobFault → Type 0
States value (Ok text) = IsStatedBy value (Ok (text_of text))
States value (Err cause) = cause ≢ fault.Memory → IsStatedBy value (Err cause)
