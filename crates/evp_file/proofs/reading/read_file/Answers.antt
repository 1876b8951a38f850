use Rattle.std.proofs.Common.{◌<◌, ◌^◌, arith}
use Rattle.evp_format.proofs.Descriptions.{bytes_are}
use Rattle.evp_file.proofs.Wholes.{whole_read}
use Rattle.evp_file.proofs.reading.read_file.Goals as goal

pub returns-clause-whole : goal.returns-clause-whole
returns-clause-whole c =
    (whole_read c.args.known.now c.args.limit c.args.bytes.now c.read_all.result (omega (arith, c.ranges.limit))
    (bytes_are c.args.bytes.now (λ k. omega (arith, c.type_inv.bytes k))) c.read_all.ensures).0

pub returns-clause-limited : goal.returns-clause-limited
returns-clause-limited c =
    (whole_read c.args.known.now c.args.limit c.args.bytes.now c.read_all.result (omega (arith, c.ranges.limit))
    (bytes_are c.args.bytes.now (λ k. omega (arith, c.type_inv.bytes k))) c.read_all.ensures).1
