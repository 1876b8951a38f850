use Rattle.std.proofs.Common.{take, ap, ◌∙◌, arith}
use Rattle.std.proofs.lemmas.List.{take-take}
use Rattle.evp_record.proofs.record_bytes.KeptBytes.of_room.Goals as goal

-- the bytes that are meant are among those that the block has room for
pub returns : goal.returns
returns c =
    c.in_block.ensures ∙ ap (take c.args.size) c.copy_from_slice.ensures.after
    ∙ take-take c.args.size 38 c.args.room.now (omega (arith, c.if-size-gt-IN_BLOCK.false))
