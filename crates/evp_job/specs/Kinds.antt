-- The kinds of stones in a job document.
use Rattle.std.specs.Prelude.{ℕ, List, codes, Option, Some, None, Result, if◌then◌else◌}
use Rattle.std.specs.Option.{ok_or}
use Rattle.evp_format.specs.Bytes.{bytes_equal}
use Rattle.evp_job.specs.declared.fault.JobFault.{JobFault}
use Rattle.evp_job.specs.declared.kinds.StoneKind.{StoneKind}
use Rattle.evp_job.specs.declared.kinds.StoneKind.TheVariants as kind
use Rattle.evp_job.specs.Forms.{misformed, text_in}
use Rattle.evp_job.specs.Steps.{◌>>=◌}
use Rattle.serde_json.specs.Data.{Data}

abbrev pub kind_named : List ℕ → Option StoneKind
kind_named text =
    if bytes_equal text (codes "terminal") then Some kind.Terminal else
    (if bytes_equal text (codes "filter") then Some kind.Filter else
    (if bytes_equal text (codes "router") then Some kind.Router else
    (if bytes_equal text (codes "split") then Some kind.Split else
    (if bytes_equal text (codes "transform") then Some kind.Transform else None))))

unfoldable pub kind_in : Option Data → Result StoneKind JobFault
kind_in value = do
  text ← text_in value
  ok_or (kind_named text) misformed
