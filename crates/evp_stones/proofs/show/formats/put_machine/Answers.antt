use Rattle.std.proofs.Common.{codes}
use Rattle.std.proofs.Common.{ap, ◌∙◌}
use Rattle.evp_report.specs.Report.{counted}
use Rattle.evp_stones.specs.Show.{order_word}
use Rattle.evp_report.proofs.Chains.{then, cut, longer}
use Rattle.evp_stones.proofs.show.formats.put_machine.Goals as goal

pub returns-in_err-put : goal.returns-in_err-put
returns-in_err-put g c =
    cut (codes " ") (longer (counted (codes " pointer ") c.args.format.now.pointer)
    (longer (order_word c.args.format.now.order) c.in_err-put.ensures)) c.from_residual.ensures.0

pub returns-in_err-put-2 : goal.returns-in_err-put-2
returns-in_err-put-2 g c =
    cut (codes " ") (longer (counted (codes " pointer ") c.args.format.now.pointer)
    (then c.in_ok-put.ensures (rw (c.order_word.ensures ∙ ap order_word c.order.ensures) at c.in_err-put-2.ensures)))
    c.from_residual-in_err-put-2.ensures.0

pub returns-in_err-put_counted : goal.returns-in_err-put_counted
returns-in_err-put_counted g c =
    cut (codes " ") (then (then c.in_ok-put.ensures
    (rw (c.order_word.ensures ∙ ap order_word c.order.ensures) at c.in_ok-put-2.ensures))
    (rw c.pointer.ensures at c.in_err-put_counted.ensures)) c.from_residual-in_err-put_counted.ensures.0

pub returns : goal.returns
returns g c =
    then (then (then c.in_ok-put.ensures (rw (c.order_word.ensures ∙ ap order_word c.order.ensures) at c.in_ok-put-2.ensures))
    (rw c.pointer.ensures at c.in_ok-put_counted.ensures)) c.put-3.ensures
