use Rattle.evp_file.proofs.WrittenOrder.{in_order}
use Rattle.evp_file.proofs.writing.write_file.Goals as goal

pub returns : goal.returns
returns c =
    rw (
      c.in_ok-end_file.ensures,
      c.in_ok-put_items.ensures,
      c.in_ok-out.ensures,
      c.as_slice.ensures,
      c.as_slice-2.ensures,
    )
    (in_order c.args.known.now c.args.file.now)
