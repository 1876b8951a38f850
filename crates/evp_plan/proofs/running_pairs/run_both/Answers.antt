use Rattle.std.proofs.Common.{[], ◌∷◌, refl, ◌∙◌, arith}
use Rattle.evp_plan.proofs.Paired.{next_pair}
use Rattle.evp_plan.proofs.running_pairs.run_both.Goals as goal

pub returns : goal.returns
returns c =
    let both = c.args.both.now in
    let from = c.args.from.now in
    let at = c.args.at in
    let t = c.args.t in
    let pairs = both.one ∷ both.two ∷ [] in
    let first = c.requires.first in
    let second = c.requires.second in
    let same = c.run_pair.auto.out in
    next_pair from at t 1 pairs both.two c.run_pair.new.out c.run_pair-2.new.out (omega arith) refl (omega (arith, second.1.1, same))
    c.run_pair-2.ensures
    ∙ next_pair from at t 0 pairs both.one c.args.out.now c.run_pair.new.out (omega arith) refl first.1.1 c.run_pair.ensures
