use Rattle.std.proofs.Common.{refl, arith}
use Rattle.evp_report.proofs.Chains.{through_none, through_one, through_cut, through_all}
use Rattle.evp_report.proofs.report.put_stones.Goals as goal

pub loop-stone-init : goal.loop-stone-init
loop-stone-init g c = through_none

pub loop-stone-preserved : goal.loop-stone-preserved
loop-stone-preserved g c = through_one 0 c.loop-stone.invariant c.loop-stone-test.true refl c.in_ok-put_counted.ensures

pub returns-in_err-put_counted : goal.returns-in_err-put_counted
returns-in_err-put_counted g c =
    through_cut 0 c.loop-stone.invariant c.loop-stone-test.true refl c.in_err-put_counted.ensures c.from_residual.ensures.0

pub returns : goal.returns
returns g c = through_all c.loop-stone.invariant (omega (arith, c.loop-stone-test.false))
