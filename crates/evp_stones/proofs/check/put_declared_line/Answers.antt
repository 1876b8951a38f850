use Rattle.std.proofs.Common.{codes}
use Rattle.hex.specs.Hex.{encode_lower}
use Rattle.evp_report.specs.Report.{line_end}
use Rattle.evp_report.proofs.Chains.{then, cut, longer}
use Rattle.evp_stones.proofs.check.put_declared_line.Goals as goal

pub returns-in_err-put : goal.returns-in_err-put
returns-in_err-put g c =
    cut line_end (longer (encode_lower c.args.known.now.id.0) (longer (codes " ") (longer c.args.name.now c.in_err-put.ensures)))
    c.from_residual.ensures.0

pub returns-in_err-put-2 : goal.returns-in_err-put-2
returns-in_err-put-2 g c =
    cut line_end (longer (encode_lower c.args.known.now.id.0)
    (longer (codes " ") (then c.in_ok-put.ensures (rw c.as_bytes.ensures.value at c.in_err-put-2.ensures))))
    c.from_residual-in_err-put-2.ensures.0

pub returns-in_err-put-3 : goal.returns-in_err-put-3
returns-in_err-put-3 g c =
    cut line_end (longer (encode_lower c.args.known.now.id.0)
    (then (then c.in_ok-put.ensures (rw c.as_bytes.ensures.value at c.in_ok-put-2.ensures)) c.in_err-put-3.ensures))
    c.from_residual-in_err-put-3.ensures.0

pub returns-in_err-put_hexadecimal : goal.returns-in_err-put_hexadecimal
returns-in_err-put_hexadecimal g c =
    cut line_end (then (then (then c.in_ok-put.ensures (rw c.as_bytes.ensures.value at c.in_ok-put-2.ensures)) c.in_ok-put-3.ensures)
    c.in_err-put_hexadecimal.ensures) c.from_residual-in_err-put_hexadecimal.ensures.0

pub returns : goal.returns
returns g c =
    then (then (then (then c.in_ok-put.ensures (rw c.as_bytes.ensures.value at c.in_ok-put-2.ensures)) c.in_ok-put-3.ensures)
    c.in_ok-put_hexadecimal.ensures) c.put-4.ensures
