use Rattle.std.proofs.Common.{eqb, w8, arith}
use Rattle.std.proofs.lemmas.Simd.{bitmask_splat, length-chunk}
use lib.Lanes.{chunk}
use Rattle.evp_wide.proofs.zeros.zeros_at.Goals as goal

pub returns : goal.returns
returns c =
    let at = c.args.at in
    let bytes = c.args.bytes.now in
    bitmask_splat w8 eqb (chunk at 16 bytes) 16 0 (length-chunk at 16 bytes c.requires) (omega arith)
