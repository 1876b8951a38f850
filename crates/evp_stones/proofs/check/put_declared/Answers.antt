use Rattle.std.proofs.Common.{ap, arith, ◌∙◌}
use Rattle.evp_stones.proofs.Looked.{looked_up}
use Rattle.evp_stones.proofs.Numbered.{through_none, through_one, through_cut, through_all}
use Rattle.evp_stones.specs.Check.{declared_in, declared_line}
use Rattle.evp_stones.proofs.check.put_declared.Goals as goal

pub loop-number-init : goal.loop-number-init
loop-number-init g c = through_none

pub loop-number-preserved : goal.loop-number-preserved
loop-number-preserved g c =
    let name = c.index-names-number in
    let found = looked_up c.args.formats.now c.loop-number.number c.get.result c.get.ensures.lookup in
    through_one name.result c.loop-number.invariant c.loop-number-test.true
    (ap (declared_line name.result) found ∙ ap (declared_in c.args.formats.now c.loop-number.number) name.is)
    c.in_ok-put_named_format.ensures

pub returns-in_err-put_named_format : goal.returns-in_err-put_named_format
returns-in_err-put_named_format g c =
    let name = c.index-names-number in
    let found = looked_up c.args.formats.now c.loop-number.number c.get.result c.get.ensures.lookup in
    through_cut name.result c.loop-number.invariant c.loop-number-test.true
    (ap (declared_line name.result) found ∙ ap (declared_in c.args.formats.now c.loop-number.number) name.is)
    c.in_err-put_named_format.ensures
    c.from_residual.ensures.0

pub returns : goal.returns
returns g c = through_all c.loop-number.invariant (omega (arith, c.loop-number-test.false))
