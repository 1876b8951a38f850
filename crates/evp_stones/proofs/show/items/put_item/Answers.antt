use Rattle.std.proofs.Common.{ap, ◌∙◌}
use Rattle.std.specs.Prelude.{slice_get}
use Rattle.evp_report.specs.Report.{line_end}
use Rattle.evp_stones.proofs.Looked.{looked_up}
use Rattle.evp_stones.specs.Show.{value_in}
use Rattle.evp_report.proofs.Chains.{then, cut, longer}
use Rattle.evp_stones.proofs.show.items.put_item.Goals as goal

pub returns-in_err-put_head : goal.returns-in_err-put_head
returns-in_err-put_head g c =
    cut line_end (longer (value_in (slice_get c.args.formats.now c.args.item.now.format) c.args.item.now.bytes)
    c.in_err-put_head.ensures) c.from_residual.ensures.0

pub returns-in_err-put_value_in : goal.returns-in_err-put_value_in
returns-in_err-put_value_in g c =
    cut line_end (then c.in_ok-put_head.ensures
    (rw (
      looked_up c.args.formats.now c.from.result c.get.result c.get.ensures.lookup
          ∙ ap (slice_get c.args.formats.now) c.from.ensures,
      c.as_slice.ensures,
    ) at c.in_err-put_value_in.ensures))
    c.from_residual-in_err-put_value_in.ensures.0

pub returns : goal.returns
returns g c =
    then (then c.in_ok-put_head.ensures (rw (
      looked_up c.args.formats.now c.from.result c.get.result c.get.ensures.lookup
          ∙ ap (slice_get c.args.formats.now) c.from.ensures,
      c.as_slice.ensures,
    ) at c.in_ok-put_value_in.ensures)) c.put.ensures
