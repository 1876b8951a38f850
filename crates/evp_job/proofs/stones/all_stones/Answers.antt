use Rattle.std.proofs.Common.{[], map}
use Rattle.std.proofs.lemmas.Result.{err_from_is_err_and}
use Rattle.serde_json.specs.View.{view}
use Rattle.evp_job.specs.KnownView.{formats_of}
use Rattle.evp_job.specs.Steps.{all_from}
use Rattle.evp_job.specs.Stones.{next_stone}
use Rattle.evp_job.specs.TextView.{stones_of}
use Rattle.evp_job.proofs.EachFrom.{all_goes_on, all_stops, all_end}
use Rattle.evp_job.proofs.stones.all_stones.Goals as goal

pub loop-k-preserved : goal.loop-k-preserved
loop-k-preserved c reading =
    let values = c.args.values.now in
    let step = next_stone reading (formats_of c.args.formats.now) in
    all_goes_on view step values c.loop-k.k c.index-values-k.result
    (stones_of c.loop-k.stones.items) (stones_of c.next_stone.new.stones.items)
    (all_from step 0 [] (map view values)) c.loop-k-test.true
    c.index-values-k.is (c.in_ok-next_stone.ensures reading) (c.loop-k.invariant reading)

pub returns-in_err-next_stone : goal.returns-in_err-next_stone
returns-in_err-next_stone c reading =
    let values = c.args.values.now in
    let step = next_stone reading (formats_of c.args.formats.now) in
    let fault = c.in_err-next_stone.field-0.0 in
    let p = err_from_is_err_and c.from_residual.result c.from_residual.ensures.1 in
    rw (p.1, p.2) (λ other.
    all_stops view step values c.loop-k.k c.index-values-k.result
    (stones_of c.loop-k.stones.items) fault (all_from step 0 [] (map view values))
    c.loop-k-test.true c.index-values-k.is (c.in_err-next_stone.ensures reading other)
    (c.loop-k.invariant reading))

pub returns : goal.returns
returns c reading =
    let values = c.args.values.now in
    let step = next_stone reading (formats_of c.args.formats.now) in
    all_end view step values c.loop-k.k (stones_of c.loop-k.stones.items)
    (all_from step 0 [] (map view values)) c.loop-k-test.false (c.loop-k.invariant reading)
