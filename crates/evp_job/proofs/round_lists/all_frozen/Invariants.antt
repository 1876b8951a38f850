use Rattle.std.proofs.Common.{◌≡◌, map, drop}
use Rattle.serde_json.specs.View.{view}
use Rattle.evp_job.specs.Steps.{one_more, each_in}
use Rattle.evp_job.specs.Rounds.{stone_of}
use Rattle.evp_job.proofs.EachFrom.{all_left}
use Rattle.evp_job.proofs.round_lists.all_frozen.Given as goal

abbrev pub invariant-loop-k : goal.invariant-loop-k
invariant-loop-k l =
    all_left view (one_more (stone_of l.stones)) l.k l.numbers.items (drop l.k l.values)
    ≡ each_in (stone_of l.stones) (map view l.values)
