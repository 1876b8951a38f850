use Rattle.std.proofs.Common.{◌≡◌, ◌+◌, ℕ, List, [], ◌∷◌, ◌++◌, map, drop, sym, subst}
use Rattle.std.proofs.lemmas.Result.{err_from_is_err_and}
use Rattle.serde_json.specs.View.{view}
use Rattle.evp_job.specs.Steps.{one_more, each_in}
use Rattle.evp_job.specs.Rounds.{submitted}
use Rattle.evp_job.proofs.EachFrom.{all_left, all_goes_on, all_stops, all_end, more_is, more_fails}
use Rattle.evp_job.proofs.round_lists.all_submitted.Goals as goal

pub loop-k-preserved : goal.loop-k-preserved
loop-k-preserved c =
    let values = c.args.values.now in
    let k = c.loop-k.k in
    let value = c.index-values-k.result in
    let done = c.loop-k.numbers.items in
    let total = each_in submitted (map view values) in
    let read = all_goes_on view (one_more submitted) values k value done (done ++ c.in_ok-number.number ∷ []) total
    c.loop-k-test.true c.index-values-k.is (more_is submitted k done (view value) c.in_ok-number.number c.in_ok-number.ensures)
    c.loop-k.invariant in
    subst (λ (all : List ℕ). all_left view (one_more submitted) (k + 1) all (drop (k + 1) values) ≡ total)
    (sym c.in_ok-push.ensures.items) read

pub returns-in_err-number : goal.returns-in_err-number
returns-in_err-number c =
    let values = c.args.values.now in
    let k = c.loop-k.k in
    let value = c.index-values-k.result in
    let done = c.loop-k.numbers.items in
    let total = each_in submitted (map view values) in
    let fault = c.in_err-number.field-0.0 in
    let p = err_from_is_err_and c.from_residual-in_err-number.result c.from_residual-in_err-number.ensures.1 in
    rw (p.1, p.2) (λ other.
    all_stops view (one_more submitted) values k value done fault total c.loop-k-test.true
    c.index-values-k.is (more_fails submitted k done (view value) fault (c.in_err-number.ensures other))
    c.loop-k.invariant)

pub returns : goal.returns
returns c =
    let values = c.args.values.now in
    all_end view (one_more submitted) values c.loop-k.k c.loop-k.numbers.items (each_in submitted (map view values))
    c.loop-k-test.false c.loop-k.invariant
