use Rattle.std.proofs.Common.{arith}
use Rattle.evp_gen.proofs.Pointers.{pointer_ge, pointer_le}
use Rattle.evp_gen.proofs.put.pointer_of.Goals as goal

pub returns-clause-some : goal.returns-clause-some
returns-clause-some c =
    let is = c.pointer_size.ensures in
    let least = pointer_ge c.args.profile in
    omega (arith, is, least)

pub returns-clause-few : goal.returns-clause-few
returns-clause-few c =
    let is = c.pointer_size.ensures in
    let most = pointer_le c.args.profile in
    omega (arith, is, most)
