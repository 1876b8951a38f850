use Rattle.std.proofs.Common.{ap, arith}
use Rattle.evp_base.specs.Path.{joined_text}
use Rattle.evp_report.proofs.Chains.{through_none, through_one, through_cut, through_all}
use Rattle.evp_report.proofs.words.put_others.Goals as goal

pub loop-step-init : goal.loop-step-init
loop-step-init g c = through_none

pub loop-step-preserved : goal.loop-step-preserved
loop-step-preserved g c =
    let step = c.step-item in
    through_one step.result c.loop-step.invariant c.loop-step-test.true (ap joined_text step.is) c.in_ok-put_joined.ensures

pub returns-in_err-put_joined : goal.returns-in_err-put_joined
returns-in_err-put_joined g c =
    let step = c.step-item in
    through_cut step.result c.loop-step.invariant c.loop-step-test.true (ap joined_text step.is) c.in_err-put_joined.ensures
    c.from_residual.ensures.0

pub returns : goal.returns
returns g c = through_all c.loop-step.invariant (omega (arith, c.loop-step-test.false))
