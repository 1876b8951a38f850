use Rattle.evp_report.proofs.Chains.{then, cut}
use Rattle.evp_stones.proofs.refusal.put_named.Goals as goal

pub returns-in_err-put : goal.returns-in_err-put
returns-in_err-put g c = cut _ c.in_err-put.ensures c.from_residual.ensures.0

pub returns : goal.returns
returns g c = then c.in_ok-put.ensures (rw c.as_bytes.ensures at c.put_quoted.ensures)
