use Rattle.std.proofs.Common.{[]}
use Rattle.evp_file.proofs.WrittenOrder.{in_order}
use Rattle.evp_gen.specs.Senders.{sent_file}
use Rattle.evp_gen.proofs.senders.sent_bytes.Goals as goal

pub returns : goal.returns
returns c =
    rw (
      c.in_ok-end_file.ensures,
      c.in_ok-put_records.ensures,
      c.in_ok-out.ensures,
      c.in_ok-sent_format.ensures,
    )
    (in_order [] (sent_file c.args.profile c.args.sender c.args.n))
