use Rattle.evp_report.specs.Report.{line_end}
use Rattle.evp_stones.specs.Refusals.{refusal_text}
use Rattle.evp_report.proofs.Chains.{then, cut, longer}
use Rattle.evp_stones.proofs.refusal.Refusal.put_ended.Goals as goal

pub returns-in_err-put : goal.returns-in_err-put
returns-in_err-put g c = cut line_end (longer (refusal_text c.args.self.now) c.in_err-put.ensures) c.from_residual.ensures.0

pub returns-in_err-put_text : goal.returns-in_err-put_text
returns-in_err-put_text g c = cut line_end (then c.in_ok-put.ensures c.in_err-put_text.ensures) c.from_residual-in_err-put_text.ensures.0

pub returns : goal.returns
returns g c = then (then c.in_ok-put.ensures c.in_ok-put_text.ensures) c.put-2.ensures
