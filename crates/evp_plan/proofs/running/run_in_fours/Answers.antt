use Rattle.std.proofs.Common.{◌∙◌, arith}
use Rattle.evp_plan.proofs.FourLists.{next_four}
use Rattle.evp_plan.proofs.running.run_in_fours.Goals as goal

pub loop-four-preserved : goal.loop-four-preserved
loop-four-preserved c = (
  next_four c.args.from.now c.args.at c.args.t c.loop-four.four-index c.args.fours.now c.four-item.result c.loop-four.out
      c.run_four.new.out c.loop-four-test.true c.four-item.is c.run_four.ensures
      ∙ c.loop-four.invariant.0,
  λ k. omega (arith, c.type_inv.out k),
)
