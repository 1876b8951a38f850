use Rattle.std.proofs.Common.{ap, arith, ◌∙◌}
use Rattle.evp_stone.specs.Accounts.{carried_of}
use Rattle.evp_report.specs.Report.{arrived_line}
use Rattle.evp_report.specs.Shown.{Indexed, received}
use Rattle.evp_report.proofs.Chains.{then, longer, through_none, through_one, through_cut, through_all}
use Rattle.evp_report.proofs.account_text.put_arrived.Goals as goal

pub loop-index-preserved : goal.loop-index-preserved
loop-index-preserved g c =
    let item = c.loop-index-item in
    through_one item.result c.loop-index.invariant c.loop-index-test.true
    (ap (λ o. arrived_line (carried_of c.args.formats.now item.result.0 o)) c.deref.ensures
    ∙ ap (λ (i : Indexed). arrived_line (received c.args.formats.now i)) item.is)
    (then c.in_ok-look_ahead.ensures c.in_ok-put_arrival.ensures)

pub returns-in_err-look_ahead : goal.returns-in_err-look_ahead
returns-in_err-look_ahead g c =
    let item = c.loop-index-item in
    let line = λ (i : Indexed). arrived_line (received c.args.formats.now i) in
    through_cut item.result c.loop-index.invariant c.loop-index-test.true (ap line item.is)
    (longer (line item.result) c.in_err-look_ahead.ensures) c.from_residual.ensures.0

pub returns-in_err-put_arrival : goal.returns-in_err-put_arrival
returns-in_err-put_arrival g c =
    let item = c.loop-index-item in
    through_cut item.result c.loop-index.invariant c.loop-index-test.true
    (ap (λ o. arrived_line (carried_of c.args.formats.now item.result.0 o)) c.deref.ensures
    ∙ ap (λ (i : Indexed). arrived_line (received c.args.formats.now i)) item.is)
    (then c.in_ok-look_ahead.ensures c.in_err-put_arrival.ensures) c.from_residual-in_err-put_arrival.ensures.0

pub loop-index-init : goal.loop-index-init
loop-index-init g c = through_none

pub returns : goal.returns
returns g c = through_all c.loop-index.invariant (omega (arith, c.loop-index-test.false))
