use Rattle.std.proofs.Common.{◌≡◌, map, drop}
use Rattle.serde_json.specs.View.{view}
use Rattle.evp_job.specs.Formats.{none_named, next_format}
use Rattle.evp_job.specs.FormatView.{named_of}
use Rattle.evp_job.specs.Steps.{all_from}
use Rattle.evp_job.proofs.EachFrom.{all_left}
use Rattle.evp_job.proofs.formats.formats_of.Given as goal

abbrev pub invariant-loop-k : goal.invariant-loop-k
invariant-loop-k l =
    all_left view (next_format l.limit) l.k (named_of l.named) (drop l.k l.values)
    ≡ all_from (next_format l.limit) 0 none_named (map view l.values)
