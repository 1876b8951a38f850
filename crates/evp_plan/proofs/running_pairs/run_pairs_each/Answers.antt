use Rattle.std.proofs.Common.{◌+◌, ◌*◌, ◌≤◌, ◌<◌, ℕ, length, ◌∙◌, sym, subst, arith}
use Rattle.evp_plan.specs.declared.gather.Pair.{Pair}
use Rattle.evp_plan.proofs.Paired.{next_pair_each}
use Rattle.evp_plan.proofs.running_pairs.run_pairs_each.Goals as goal

pub loop-pair-preserved : goal.loop-pair-preserved
loop-pair-preserved c =
    let at = c.args.at in
    let to = c.args.to in
    let pair = c.pair-item.result in
    let k = c.loop-pair.pair-index in
    let within = c.loop-pair-test.true in
    let same = c.loop-pair.auto.out in
    let Room : Pair → Type 0 = λ p. (p.one.to + 16 ≤ to.apart) × ((j : ℕ) → j < c.args.n
    → to.first + j * to.apart + p.one.to + 16 ≤ length c.args.out.now) in
    let room = subst Room (sym c.pair-item.is) (c.requires.room k pair within) in
    next_pair_each c.args.from.now at.first at.apart to.first to.apart c.args.n k c.args.pairs.now pair c.loop-pair.out
    c.run_pair_each.new.out within c.pair-item.is room.0 (λ j below. let fits = room.1 j below in omega (arith, fits, same)) c.run_pair_each.ensures
    ∙ c.loop-pair.invariant
