use Rattle.std.proofs.Common.{◌≡◌, [], map, drop}
use Rattle.serde_json.specs.View.{view}
use Rattle.evp_job.specs.Sources.{next_source}
use Rattle.evp_job.specs.SourceView.{sources_of}
use Rattle.evp_job.specs.Steps.{all_from}
use Rattle.evp_job.proofs.EachFrom.{all_left}
use Rattle.evp_job.proofs.sources.all_sources.Given as goal

abbrev pub invariant-loop-k : goal.invariant-loop-k
invariant-loop-k l =
    all_left view next_source l.k (sources_of l.sources.items) (drop l.k l.values)
    ≡ all_from next_source 0 [] (map view l.values)
