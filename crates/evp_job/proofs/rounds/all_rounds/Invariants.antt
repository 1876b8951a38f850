use Rattle.std.proofs.Common.{◌≡◌, map, drop}
use Rattle.serde_json.specs.View.{view}
use Rattle.evp_job.specs.Steps.{one_more, each_in}
use Rattle.evp_job.specs.Rounds.{round_in}
use Rattle.evp_job.proofs.EachFrom.{all_left}
use Rattle.evp_job.proofs.rounds.all_rounds.Given as goal

abbrev pub invariant-loop-k : goal.invariant-loop-k
invariant-loop-k l =
    all_left view (one_more (round_in l.sources l.stones)) l.k l.rounds.items (drop l.k l.values)
    ≡ each_in (round_in l.sources l.stones) (map view l.values)
