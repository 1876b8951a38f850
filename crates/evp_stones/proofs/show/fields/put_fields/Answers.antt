use Rattle.std.proofs.Common.{ap, arith}
use Rattle.evp_report.proofs.Chains.{through_none, through_one, through_cut, through_all}
use Rattle.evp_stones.specs.Show.{field_line}
use Rattle.evp_stones.proofs.show.fields.put_fields.Goals as goal

pub loop-field-init : goal.loop-field-init
loop-field-init g c = through_none

pub loop-field-preserved : goal.loop-field-preserved
loop-field-preserved g c =
    through_one c.field-item.result c.loop-field.invariant c.loop-field-test.true
    (ap (field_line c.args.types.now c.args.fields.now) c.field-item.is) c.in_ok-put_field.ensures

pub returns-in_err-put_field : goal.returns-in_err-put_field
returns-in_err-put_field g c =
    through_cut c.field-item.result c.loop-field.invariant c.loop-field-test.true
    (ap (field_line c.args.types.now c.args.fields.now) c.field-item.is) c.in_err-put_field.ensures c.from_residual.ensures.0

pub returns : goal.returns
returns g c = through_all c.loop-field.invariant (omega (arith, c.loop-field-test.false))
