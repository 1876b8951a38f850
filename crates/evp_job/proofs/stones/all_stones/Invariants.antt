use Rattle.std.proofs.Common.{◌≡◌, [], map, drop}
use Rattle.serde_json.specs.View.{view}
use Rattle.evp_job.specs.Expressions.{Reading}
use Rattle.evp_job.specs.KnownView.{formats_of}
use Rattle.evp_job.specs.Steps.{all_from}
use Rattle.evp_job.specs.Stones.{next_stone}
use Rattle.evp_job.specs.TextView.{stones_of}
use Rattle.evp_job.proofs.EachFrom.{all_left}
use Rattle.evp_job.proofs.stones.all_stones.Given as goal

abbrev pub invariant-loop-k : goal.invariant-loop-k
invariant-loop-k l = (reading : Reading)
    → all_left view (next_stone reading (formats_of l.formats)) l.k (stones_of l.stones.items)
    (drop l.k l.values)
    ≡ all_from (next_stone reading (formats_of l.formats)) 0 [] (map view l.values)
