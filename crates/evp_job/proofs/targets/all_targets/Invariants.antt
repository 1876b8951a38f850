use Rattle.std.proofs.Common.{◌≡◌, map, drop}
use Rattle.serde_json.specs.View.{view}
use Rattle.evp_job.specs.Steps.{one_more, each_in}
use Rattle.evp_job.specs.Stones.{stone_number}
use Rattle.evp_job.proofs.EachFrom.{all_left}
use Rattle.evp_job.proofs.targets.all_targets.Given as goal

abbrev pub invariant-loop-k : goal.invariant-loop-k
invariant-loop-k l =
    all_left view (one_more stone_number) l.k l.targets.items (drop l.k l.values)
    ≡ each_in stone_number (map view l.values)
