use Rattle.std.proofs.Common.{◌≡◌, map, drop}
use Rattle.serde_json.specs.View.{view}
use Rattle.evp_job.specs.Steps.{one_more, each_in}
use Rattle.evp_job.specs.Rounds.{submitted}
use Rattle.evp_job.proofs.EachFrom.{all_left}
use Rattle.evp_job.proofs.round_lists.all_submitted.Given as goal

abbrev pub invariant-loop-k : goal.invariant-loop-k
invariant-loop-k l =
    all_left view (one_more submitted) l.k l.numbers.items (drop l.k l.values)
    ≡ each_in submitted (map view l.values)
