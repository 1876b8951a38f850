use Rattle.evp_stones.specs.Numbered.{numbered}
use Rattle.evp_stones.specs.Show.{item_line}
use Rattle.evp_report.proofs.Chains.{then, cut}
use Rattle.evp_stones.proofs.show.shown.Shown.put.Goals as goal

pub returns-in_err-put_formats : goal.returns-in_err-put_formats
returns-in_err-put_formats g c =
    cut (numbered (item_line c.args.self.now.formats.items) 0 c.args.self.now.items)
    (rw c.deref.ensures.value at c.in_err-put_formats.ensures) c.from_residual.ensures.0

pub returns : goal.returns
returns g c =
    then (rw c.deref.ensures.value at c.in_ok-put_formats.ensures) (rw (c.deref-2.ensures.value, c.as_slice.ensures) at c.put_items.ensures)
