use Rattle.std.proofs.Common.{codes}
use Rattle.evp_report.specs.Report.{counted, line_end}
use Rattle.evp_report.proofs.Chains.{then, cut, longer}
use Rattle.evp_stones.proofs.show.formats.put_type_line.Goals as goal

pub returns-in_err-put : goal.returns-in_err-put
returns-in_err-put g c =
    cut line_end (longer (counted (codes " length ") c.args.record_type.now.length)
    (longer c.args.record_type.now.name c.in_err-put.ensures)) c.from_residual.ensures.0

pub returns-in_err-put-2 : goal.returns-in_err-put-2
returns-in_err-put-2 g c =
    cut line_end (longer (counted (codes " length ") c.args.record_type.now.length)
    (then c.in_ok-put.ensures (rw c.as_bytes.ensures.value at c.in_err-put-2.ensures))) c.from_residual-in_err-put-2.ensures.0

pub returns-in_err-put_counted : goal.returns-in_err-put_counted
returns-in_err-put_counted g c =
    cut line_end (then (then c.in_ok-put.ensures (rw c.as_bytes.ensures.value at c.in_ok-put-2.ensures)) c.in_err-put_counted.ensures)
    c.from_residual-in_err-put_counted.ensures.0

pub returns : goal.returns
returns g c =
    then (then (then c.in_ok-put.ensures (rw c.as_bytes.ensures.value at c.in_ok-put-2.ensures)) c.in_ok-put_counted.ensures)
    c.put-3.ensures
