use Rattle.std.proofs.Common.{◌≤◌, nat_abs, sym, arith, rules}
use Rattle.std.proofs.Math.Nat.{mul-le-mul}
use Rattle.std.proofs.lemmas.Int.{to_z-of_z}
use mir.Val.{SFits}
use mir.Syntax.{w128}
use Rattle.evp_value.proofs.Lengths.{list_end-large, count_over, count_within}
use Rattle.evp_value.proofs.blocks.list_end.Goals as goal

pub returns-then-count-from-clause-value : goal.returns-then-count-from-clause-value
returns-then-count-from-clause-value c =
    let fits : SFits w128 c.args.count = search rules in
    let limit_fits : SFits w128 c.from.result = search rules in
    let test = rw (to_z-of_z w128 c.args.count fits, to_z-of_z w128 c.from.result limit_fits, c.from.ensures) at c.if-count-from.true in
    sym (list_end-large c.args.limit (nat_abs c.args.count) c.args.element_size c.args.size c.requires.some
    (count_over c.args.count c.args.limit c.requires.counts test))

pub block_end-requires : goal.block_end-requires
block_end-requires c =
    let fits : SFits w128 c.args.count = search rules in
    let limit_fits : SFits w128 c.from.result = search rules in
    let test = rw (to_z-of_z w128 c.args.count fits, to_z-of_z w128 c.from.result limit_fits, c.from.ensures) at c.if-count-from.false in
    let few : nat_abs c.args.count ≤ 4294967295 = (let below = count_within c.args.count c.args.limit c.requires.counts test in omega arith)
    in
    let small : c.from-2.result ≤ 4294967295 = omega arith in
    let product = mul-le-mul few small in
    rw (to_z-of_z w128 c.args.count fits) (omega (arith, product))
