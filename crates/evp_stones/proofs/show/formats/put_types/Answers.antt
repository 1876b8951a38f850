use Rattle.std.proofs.Common.{ap, arith}
use Rattle.evp_report.proofs.Chains.{through_none, through_one, through_cut, through_all}
use Rattle.evp_stones.specs.Show.{type_lines}
use Rattle.evp_stones.proofs.show.formats.put_types.Goals as goal

pub loop-record_type-init : goal.loop-record_type-init
loop-record_type-init g c = through_none

pub loop-record_type-preserved : goal.loop-record_type-preserved
loop-record_type-preserved g c =
    through_one c.record_type-item.result c.loop-record_type.invariant c.loop-record_type-test.true
    (ap (type_lines c.args.types.now) c.record_type-item.is) c.in_ok-put_type.ensures

pub returns-in_err-put_type : goal.returns-in_err-put_type
returns-in_err-put_type g c =
    through_cut c.record_type-item.result c.loop-record_type.invariant c.loop-record_type-test.true
    (ap (type_lines c.args.types.now) c.record_type-item.is) c.in_err-put_type.ensures c.from_residual.ensures.0

pub returns : goal.returns
returns g c = through_all c.loop-record_type.invariant (omega (arith, c.loop-record_type-test.false))
