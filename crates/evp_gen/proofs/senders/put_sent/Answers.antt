use Rattle.std.proofs.Common.{length, ap, ◌∙◌, arith}
use Rattle.evp_gen.proofs.SentFiles.{record_length}
use Rattle.evp_gen.proofs.senders.put_sent.Goals as goal

pub put_record-requires : goal.put_record-requires
put_record-requires c =
    let is = ap length (c.as_slice.ensures.value ∙ c.in_ok-pack_sent.ensures) in
    let long = record_length c.args.profile c.args.sender c.args.index c.requires.sender c.requires.index in
    omega (arith, is, long)
