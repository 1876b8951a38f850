use Rattle.hex.specs.Hex.{encode_lower}
use Rattle.evp_report.specs.Report.{line_end}
use Rattle.evp_report.proofs.Chains.{then, cut, longer}
use Rattle.evp_stones.proofs.bench.summary.put_digest_line.Goals as goal

pub returns-in_err-put : goal.returns-in_err-put
returns-in_err-put g c = cut line_end (longer (encode_lower c.args.digest.now) c.in_err-put.ensures) c.from_residual.ensures.0

pub returns-in_err-put_hexadecimal : goal.returns-in_err-put_hexadecimal
returns-in_err-put_hexadecimal g c =
    cut line_end (then c.in_ok-put.ensures c.in_err-put_hexadecimal.ensures) c.from_residual-in_err-put_hexadecimal.ensures.0

pub returns : goal.returns
returns g c = then (then c.in_ok-put.ensures c.in_ok-put_hexadecimal.ensures) c.put-2.ensures
