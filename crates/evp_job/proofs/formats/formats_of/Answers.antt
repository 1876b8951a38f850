use Rattle.std.proofs.Common.{map}
use Rattle.std.proofs.lemmas.Result.{err_from_is_err_and}
use Rattle.serde_json.specs.View.{view}
use Rattle.evp_job.specs.Formats.{none_named, next_format}
use Rattle.evp_job.specs.FormatView.{named_of}
use Rattle.evp_job.specs.Steps.{all_from}
use Rattle.evp_job.proofs.EachFrom.{all_goes_on, all_stops, all_end}
use Rattle.evp_job.proofs.formats.formats_of.Goals as goal

pub loop-k-preserved : goal.loop-k-preserved
loop-k-preserved c =
    let values = c.args.values.now in
    all_goes_on view (next_format c.args.limit) values c.loop-k.k c.index-values-k.result
    (named_of c.loop-k.named) (named_of c.next_format.new.named)
    (all_from (next_format c.args.limit) 0 none_named (map view values)) c.loop-k-test.true
    c.index-values-k.is c.in_ok-next_format.ensures c.loop-k.invariant

pub returns-in_err-next_format : goal.returns-in_err-next_format
returns-in_err-next_format c =
    let values = c.args.values.now in
    let fault = c.in_err-next_format.field-0.0 in
    let p = err_from_is_err_and c.from_residual.result c.from_residual.ensures.1 in
    rw (p.1, p.2) (λ other.
    all_stops view (next_format c.args.limit) values c.loop-k.k c.index-values-k.result
    (named_of c.loop-k.named) fault (all_from (next_format c.args.limit) 0 none_named
    (map view values))
    c.loop-k-test.true c.index-values-k.is (c.in_err-next_format.ensures other) c.loop-k.invariant)

pub returns : goal.returns
returns c =
    let values = c.args.values.now in
    all_end view (next_format c.args.limit) values c.loop-k.k (named_of c.loop-k.named)
    (all_from (next_format c.args.limit) 0 none_named (map view values)) c.loop-k-test.false
    c.loop-k.invariant
