use Rattle.std.proofs.Common.{◌+◌, ◌∙◌, sym}
use Rattle.evp_plan.specs.Pairs.{pair_cells}
use Rattle.evp_plan.proofs.Each.{none_yet, no_more}
use Rattle.evp_plan.proofs.OneGather.{gather_more}
use Rattle.evp_plan.proofs.running_pairs.run_pair_each.Goals as goal

pub loop-k-init : goal.loop-k-init
loop-k-init c = none_yet c.args.from.now c.args.at.first c.args.at.apart (c.args.to.first + c.args.pair.one.to) c.args.to.apart c.args.n
    (pair_cells c.args.pair) c.args.out.now

pub loop-k-preserved : goal.loop-k-preserved
loop-k-preserved c =
    gather_more c.args.from.now c.args.at.first c.args.at.apart c.args.to.first c.args.to.apart c.args.n c.loop-k.k c.args.pair.one.to
    (pair_cells c.args.pair) c.loop-k.out c.run_pair.new.out c.loop-k-test.true c.run_pair.ensures
    ∙ c.loop-k.invariant

pub returns : goal.returns
returns c =
    sym (no_more c.args.from.now c.args.at.first c.args.at.apart (c.args.to.first + c.args.pair.one.to) c.args.to.apart c.args.n
    (pair_cells c.args.pair) c.loop-k.k c.loop-k.out c.loop-k-test.false)
    ∙ c.loop-k.invariant
