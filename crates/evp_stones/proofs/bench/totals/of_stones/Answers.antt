use Rattle.std.proofs.Common.{◌∙◌, ◌*◌, ◌+◌, ◌^◌, ap, sym, take, arith}
use Rattle.evp_stones.specs.AccountTotals.{both, route_of, stone_of}
use Rattle.evp_stones.specs.declared.bench.totals.Totals.{Totals}
use Rattle.evp_stones.specs.Totals.{sums}
use Rattle.evp_stones.proofs.TotalSums.{sums_more, within_both}
use Rattle.evp_stones.proofs.bench.totals.of_stones.Goals as goal

pub loop-account-preserved : goal.loop-account-preserved
loop-account-preserved c =
    let accounts = c.args.accounts.now in
    let i = c.loop-account.account-index in
    let account = c.account-item.result in
    record {
      made = c.both-totals.ensures ∙ ap (λ (t : Totals). both t c.of_routes.result) c.loop-account.invariant.made
          ∙ ap (both (sums stone_of (take i accounts)))
          (c.of_routes.ensures.totals ∙ ap (sums route_of) c.as_slice.ensures.value ∙ ap stone_of c.account-item.is)
          ∙ sym (sums_more stone_of accounts i account c.loop-account-test.true);
      within = within_both (i * 2 ^ 80) (2 ^ 80) ((i + 1) * 2 ^ 80) c.loop-account.totals c.of_routes.result c.both-totals.result
          (omega arith) c.both-totals.ensures c.loop-account.invariant.within c.of_routes.ensures.within;
    }
