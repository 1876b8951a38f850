use Rattle.hex.specs.Hex.{encode_lower}
use Rattle.evp_report.specs.Report.{line_end}
use Rattle.evp_stones.specs.Show.{machine_text}
use Rattle.evp_report.proofs.Chains.{then, cut, longer}
use Rattle.evp_stones.proofs.show.formats.put_format_line.Goals as goal

pub returns-in_err-put_counted : goal.returns-in_err-put_counted
returns-in_err-put_counted g c =
    cut line_end (longer (encode_lower c.args.known.now.id.0)
    (longer (machine_text c.args.known.now.format) c.in_err-put_counted.ensures)) c.from_residual.ensures.0

pub returns-in_err-put_machine : goal.returns-in_err-put_machine
returns-in_err-put_machine g c =
    cut line_end (longer (encode_lower c.args.known.now.id.0) (then c.in_ok-put_counted.ensures c.in_err-put_machine.ensures))
    c.from_residual-in_err-put_machine.ensures.0

pub returns-in_err-put_hexadecimal : goal.returns-in_err-put_hexadecimal
returns-in_err-put_hexadecimal g c =
    cut line_end (then (then c.in_ok-put_counted.ensures c.in_ok-put_machine.ensures) c.in_err-put_hexadecimal.ensures)
    c.from_residual-in_err-put_hexadecimal.ensures.0

pub returns : goal.returns
returns g c = then (then (then c.in_ok-put_counted.ensures c.in_ok-put_machine.ensures) c.in_ok-put_hexadecimal.ensures) c.put.ensures
