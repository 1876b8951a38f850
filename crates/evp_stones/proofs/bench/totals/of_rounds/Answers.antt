use Rattle.std.proofs.Common.{◌∙◌, ◌*◌, ◌+◌, ◌^◌, ◌≡◌, ap, sym, subst, take, arith}
use Rattle.evp_stones.specs.AccountTotals.{after_round, rounds_totals, IsWithin}
use Rattle.evp_stones.specs.declared.bench.totals.Totals.{Totals}
use Rattle.evp_stones.proofs.TotalSums.{rounds_more}
use Rattle.evp_stones.proofs.bench.totals.of_rounds.Goals as goal

pub loop-round-preserved : goal.loop-round-preserved
loop-round-preserved c =
    let rounds = c.args.rounds.now in
    let i = c.loop-round.round-index in
    let round = c.round-item.result in
    let more : i * 2 ^ 64 + 2 ^ 64 ≡ (i + 1) * 2 ^ 64 = omega arith in
    record {
      made = c.after_round-totals.ensures.totals ∙ ap (λ (t : Totals). after_round t round) c.loop-round.invariant.made
          ∙ ap (after_round (rounds_totals (take i rounds))) c.round-item.is ∙ sym (rounds_more rounds i round c.loop-round-test.true);
      within = subst (λ most. IsWithin most c.after_round-totals.result) more
          (c.after_round-totals.ensures.grows (i * 2 ^ 64) c.loop-round.invariant.within);
    }
