use Rattle.std.proofs.Common.{◌∙◌, ◌*◌, ◌+◌, ◌^◌, ap, sym, take, arith}
use Rattle.evp_stones.specs.AccountTotals.{both, rounds_totals, route_of}
use Rattle.evp_stones.specs.declared.bench.totals.Totals.{Totals}
use Rattle.evp_stones.specs.Totals.{sums}
use Rattle.evp_stones.proofs.TotalSums.{sums_more, within_both}
use Rattle.evp_stones.proofs.bench.totals.of_routes.Goals as goal

pub loop-route-preserved : goal.loop-route-preserved
loop-route-preserved c =
    let routes = c.args.routes.now in
    let i = c.loop-route.route-index in
    let route = c.route-item.result in
    record {
      made = c.both-totals.ensures ∙ ap (λ (t : Totals). both t c.of_rounds.result) c.loop-route.invariant.made
          ∙ ap (both (sums route_of (take i routes)))
          (c.of_rounds.ensures.totals ∙ ap rounds_totals c.as_slice.ensures.value ∙ ap route_of c.route-item.is)
          ∙ sym (sums_more route_of routes i route c.loop-route-test.true);
      within = within_both (i * 2 ^ 70) (2 ^ 70) ((i + 1) * 2 ^ 70) c.loop-route.totals c.of_rounds.result c.both-totals.result
          (omega arith) c.both-totals.ensures c.loop-route.invariant.within c.of_rounds.ensures.within;
    }
