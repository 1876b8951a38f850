use Rattle.std.proofs.Common.{ap, arith}
use Rattle.evp_report.specs.Report.{refused_line}
use Rattle.evp_report.proofs.Chains.{through_none, through_one, through_cut, through_all}
use Rattle.evp_report.proofs.account_text.put_refused.Goals as goal

pub loop-index-preserved : goal.loop-index-preserved
loop-index-preserved g c =
    let item = c.loop-index-item in
    through_one item.result c.loop-index.invariant c.loop-index-test.true (ap refused_line item.is)
    c.in_ok-put_refusal.ensures

pub returns-in_err-put_refusal : goal.returns-in_err-put_refusal
returns-in_err-put_refusal g c =
    let item = c.loop-index-item in
    through_cut item.result c.loop-index.invariant c.loop-index-test.true (ap refused_line item.is)
    c.in_err-put_refusal.ensures c.from_residual.ensures.0

pub loop-index-init : goal.loop-index-init
loop-index-init g c = through_none

pub returns : goal.returns
returns g c = through_all c.loop-index.invariant (omega (arith, c.loop-index-test.false))
