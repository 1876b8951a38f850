use Rattle.std.proofs.Common.{arith}
use Rattle.evp_format.proofs.Descriptions.{bytes_are}
use Rattle.evp_runner.proofs.sender.are_bytes.Goals as goal

pub returns : goal.returns
returns c = bytes_are c.args.bytes.now (λ k. omega (arith, c.type_inv.bytes k))
