use Rattle.std.proofs.Common.{[], map}
use Rattle.std.proofs.lemmas.Result.{err_from_is_err_and}
use Rattle.serde_json.specs.View.{view}
use Rattle.evp_job.specs.Sources.{next_source}
use Rattle.evp_job.specs.SourceView.{sources_of}
use Rattle.evp_job.specs.Steps.{all_from}
use Rattle.evp_job.proofs.EachFrom.{all_goes_on, all_stops, all_end}
use Rattle.evp_job.proofs.sources.all_sources.Goals as goal

pub loop-k-preserved : goal.loop-k-preserved
loop-k-preserved c =
    let values = c.args.values.now in
    all_goes_on view next_source values c.loop-k.k c.index-values-k.result
    (sources_of c.loop-k.sources.items) (sources_of c.next_source.new.sources.items)
    (all_from next_source 0 [] (map view values)) c.loop-k-test.true c.index-values-k.is
    c.in_ok-next_source.ensures c.loop-k.invariant

pub returns-in_err-next_source : goal.returns-in_err-next_source
returns-in_err-next_source c =
    let values = c.args.values.now in
    let fault = c.in_err-next_source.field-0.0 in
    let p = err_from_is_err_and c.from_residual.result c.from_residual.ensures.1 in
    rw (p.1, p.2) (λ other.
    all_stops view next_source values c.loop-k.k c.index-values-k.result
    (sources_of c.loop-k.sources.items) fault (all_from next_source 0 [] (map view values))
    c.loop-k-test.true c.index-values-k.is (c.in_err-next_source.ensures other) c.loop-k.invariant)

pub returns : goal.returns
returns c =
    let values = c.args.values.now in
    all_end view next_source values c.loop-k.k (sources_of c.loop-k.sources.items)
    (all_from next_source 0 [] (map view values)) c.loop-k-test.false c.loop-k.invariant
