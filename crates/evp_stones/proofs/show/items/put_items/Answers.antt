use Rattle.std.proofs.Common.{ap, arith}
use Rattle.evp_stones.proofs.Numbered.{through_none, through_one, through_cut, through_all}
use Rattle.evp_stones.specs.Show.{item_line}
use Rattle.evp_stones.proofs.show.items.put_items.Goals as goal

pub loop-number-init : goal.loop-number-init
loop-number-init g c = through_none

pub loop-number-preserved : goal.loop-number-preserved
loop-number-preserved g c =
    through_one c.index-items-number.result c.loop-number.invariant c.loop-number-test.true
    (ap (item_line c.args.formats.now c.loop-number.number) c.index-items-number.is) c.in_ok-put_item.ensures

pub returns-in_err-put_item : goal.returns-in_err-put_item
returns-in_err-put_item g c =
    through_cut c.index-items-number.result c.loop-number.invariant c.loop-number-test.true
    (ap (item_line c.args.formats.now c.loop-number.number) c.index-items-number.is) c.in_err-put_item.ensures c.from_residual.ensures.0

pub returns : goal.returns
returns g c = through_all c.loop-number.invariant (omega (arith, c.loop-number-test.false))
