use Rattle.std.proofs.Common.{◌+◌, true, false}
use Rattle.evp_plan.proofs.Paired.{pair_made}
use Rattle.evp_plan.proofs.running_pairs.run_pair.Goals as goal

pub returns-then-pair : goal.returns-then-pair
returns-then-pair c =
    let pair = c.args.pair.now in
    pair_made c.args.from.now c.args.at (c.args.t + pair.one.to) pair true c.args.out.now c.gather_with_signs.new.out c.requires.room
    c.if-pair.true c.gather_with_signs.ensures

pub returns : goal.returns
returns c =
    let pair = c.args.pair.now in
    pair_made c.args.from.now c.args.at (c.args.t + pair.one.to) pair false c.args.out.now c.gather_two.new.out c.requires.room
    c.if-pair.false c.gather_two.ensures
