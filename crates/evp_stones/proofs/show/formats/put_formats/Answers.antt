use Rattle.std.proofs.Common.{ap, arith}
use Rattle.evp_stones.proofs.Numbered.{through_none, through_one, through_cut, through_all}
use Rattle.evp_stones.specs.Show.{format_lines}
use Rattle.evp_stones.proofs.show.formats.put_formats.Goals as goal

pub loop-number-init : goal.loop-number-init
loop-number-init g c = through_none

pub loop-number-preserved : goal.loop-number-preserved
loop-number-preserved g c =
    through_one c.index-formats-number.result c.loop-number.invariant c.loop-number-test.true
    (ap (format_lines c.loop-number.number) c.index-formats-number.is) c.in_ok-put_format.ensures

pub returns-in_err-put_format : goal.returns-in_err-put_format
returns-in_err-put_format g c =
    through_cut c.index-formats-number.result c.loop-number.invariant c.loop-number-test.true
    (ap (format_lines c.loop-number.number) c.index-formats-number.is) c.in_err-put_format.ensures c.from_residual.ensures.0

pub returns : goal.returns
returns g c = through_all c.loop-number.invariant (omega (arith, c.loop-number-test.false))
