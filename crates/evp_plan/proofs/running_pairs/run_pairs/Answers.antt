use Rattle.std.proofs.Common.{◌∙◌, ap, arith}
use Rattle.evp_plan.specs.declared.gather.Pair.{Pair}
use Rattle.evp_plan.proofs.Paired.{next_pair}
use Rattle.evp_plan.proofs.running_pairs.run_pairs.Goals as goal

pub loop-pair-preserved : goal.loop-pair-preserved
loop-pair-preserved c =
    let pair = c.pair-item.result in
    let k = c.loop-pair.pair-index in
    let to = ap (λ (p : Pair). p.one.to) c.pair-item.is in
    let fits = c.requires k pair c.loop-pair-test.true in
    let same = c.loop-pair.auto.out in
    next_pair c.args.from.now c.args.at c.args.t k c.args.pairs.now pair c.loop-pair.out c.run_pair.new.out c.loop-pair-test.true
    c.pair-item.is (omega (arith, fits.1.1, to, same)) c.run_pair.ensures
    ∙ c.loop-pair.invariant
