use Rattle.std.proofs.Common.{◌≡◌, ◌+◌, ℕ, List, [], ◌∷◌, ◌++◌, map, drop, sym, subst}
use Rattle.std.proofs.lemmas.Result.{err_from_is_err_and}
use Rattle.serde_json.specs.View.{view}
use Rattle.evp_stone.specs.declared.round.Round.{Round}
use Rattle.evp_job.specs.Steps.{one_more, each_in}
use Rattle.evp_job.specs.Rounds.{round_in}
use Rattle.evp_job.proofs.EachFrom.{all_left, all_goes_on, all_stops, all_end, more_is, more_fails}
use Rattle.evp_job.proofs.rounds.all_rounds.Goals as goal

pub loop-k-preserved : goal.loop-k-preserved
loop-k-preserved c =
    let values = c.args.values.now in
    let k = c.loop-k.k in
    let value = c.index-values-k.result in
    let done = c.loop-k.rounds.items in
    let total = each_in (round_in c.args.sources c.args.stones) (map view values) in
    let read = all_goes_on view (one_more (round_in c.args.sources c.args.stones)) values k value done (done ++ c.in_ok-round.round ∷ []) total
    c.loop-k-test.true c.index-values-k.is (more_is (round_in c.args.sources c.args.stones) k done (view value) c.in_ok-round.round c.in_ok-round.ensures)
    c.loop-k.invariant in
    subst (λ (all : List Round). all_left view (one_more (round_in c.args.sources c.args.stones)) (k + 1) all (drop (k + 1) values) ≡ total)
    (sym c.in_ok-push.ensures.items) read

pub returns-in_err-round : goal.returns-in_err-round
returns-in_err-round c =
    let values = c.args.values.now in
    let k = c.loop-k.k in
    let value = c.index-values-k.result in
    let done = c.loop-k.rounds.items in
    let total = each_in (round_in c.args.sources c.args.stones) (map view values) in
    let fault = c.in_err-round.field-0.0 in
    let p = err_from_is_err_and c.from_residual-in_err-round.result c.from_residual-in_err-round.ensures.1 in
    rw (p.1, p.2) (λ other.
    all_stops view (one_more (round_in c.args.sources c.args.stones)) values k value done fault total c.loop-k-test.true
    c.index-values-k.is (more_fails (round_in c.args.sources c.args.stones) k done (view value) fault (c.in_err-round.ensures other))
    c.loop-k.invariant)

pub returns : goal.returns
returns c =
    let values = c.args.values.now in
    all_end view (one_more (round_in c.args.sources c.args.stones)) values c.loop-k.k c.loop-k.rounds.items
    (each_in (round_in c.args.sources c.args.stones) (map view values))
    c.loop-k-test.false c.loop-k.invariant
