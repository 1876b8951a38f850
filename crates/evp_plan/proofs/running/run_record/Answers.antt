use Rattle.std.proofs.Common.{◌+◌, ◌*◌, arith}
use Rattle.evp_format.proofs.Descriptions.{bytes_are}
use Rattle.evp_plan.proofs.Gathered.{one_gather}
use Rattle.evp_plan.proofs.running.run_record.Goals as goal

pub returns-clause-made : goal.returns-clause-made
returns-clause-made c =
    let at = c.args.at in
    let to = c.args.to in
    one_gather c.args.from.now (at.first + c.args.k * at.apart) (to.first + c.args.k * to.apart) c.args.gather.now c.args.out.now
    c.run_gather.new.out c.requires.bytes c.requires.room c.run_gather.ensures

pub returns-clause-bytes : goal.returns-clause-bytes
returns-clause-bytes c = bytes_are c.run_gather.new.out (λ k. omega (arith, c.type_inv.out k))
