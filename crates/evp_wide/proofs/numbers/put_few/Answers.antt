use Rattle.std.proofs.Common.{◌+◌, ◌*◌, ◌≤◌, ◌∙◌, refl, mul-le-mul_right, arith}
use Rattle.evp_wide.proofs.SignedNumbers.{signed_next}
use Rattle.evp_wide.proofs.numbers.put_few.Goals as goal

pub loop-k-preserved : goal.loop-k-preserved
loop-k-preserved c =
    let size = c.args.size in
    let width = c.args.width in
    let k = c.loop-k.k in
    let from = c.args.from.now in
    let below : k + 1 ≤ c.args.n = let less = c.loop-k-test.true in omega (arith, less) in
    let read : (k + 1) * width ≤ c.args.n * width = mul-le-mul_right width below in
    let written : (k + 1) * size ≤ c.args.n * size = mul-le-mul_right size below in
    c.put_low.ensures
    ∙ signed_next size c.args.to_order from width c.args.from_order c.requires.width c.args.to c.args.at k _ _ c.get_signed-word.result
    c.args.out.now c.loop-k.out c.requires.size refl refl (omega (arith, read, c.requires.from)) (omega (arith, written, c.requires.out))
    c.loop-k.invariant c.get_signed-word.ensures
