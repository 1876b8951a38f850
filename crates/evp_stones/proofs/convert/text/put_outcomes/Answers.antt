use Rattle.std.proofs.Common.{ap, sym, arith}
use Rattle.evp_report.specs.Report.{numbered_line}
use Rattle.evp_stones.proofs.Numbered.{through_none, through_one, through_cut, through_all, numbered_map}
use Rattle.evp_stones.specs.Outcomes.{outcome_text}
use Rattle.evp_stones.proofs.convert.text.put_outcomes.Goals as goal

pub loop-number-init : goal.loop-number-init
loop-number-init g c = through_none

pub loop-number-preserved : goal.loop-number-preserved
loop-number-preserved g c =
    through_one c.index-outcomes-number.result c.loop-number.invariant c.loop-number-test.true
    (ap (λ outcome. numbered_line c.loop-number.number (outcome_text c.args.to.now outcome)) c.index-outcomes-number.is)
    c.in_ok-put_line.ensures

pub returns-in_err-put_line : goal.returns-in_err-put_line
returns-in_err-put_line g c =
    rw (sym (numbered_map numbered_line (outcome_text c.args.to.now) 0 c.args.outcomes.now))
    (through_cut c.index-outcomes-number.result c.loop-number.invariant c.loop-number-test.true
    (ap (λ outcome. numbered_line c.loop-number.number (outcome_text c.args.to.now outcome)) c.index-outcomes-number.is)
    c.in_err-put_line.ensures c.from_residual.ensures.0)

pub returns : goal.returns
returns g c =
    rw (sym (numbered_map numbered_line (outcome_text c.args.to.now) 0 c.args.outcomes.now))
    (through_all c.loop-number.invariant (omega (arith, c.loop-number-test.false)))
