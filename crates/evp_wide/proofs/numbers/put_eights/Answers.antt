use Rattle.std.proofs.Common.{◌≡◌, ℕ, ◌+◌, ◌*◌, ◌≤◌, List, ap, ◌∙◌, mul-le-mul_right, arith}
use Rattle.evp_wide.specs.Zeros.{with_signed}
use Rattle.evp_wide.proofs.SignedNumbers.{signed_more}
use Rattle.evp_wide.proofs.numbers.put_eights.Goals as goal

pub loop-eight-preserved : goal.loop-eight-preserved
loop-eight-preserved c =
    let size = c.args.size in
    let width = c.args.width in
    let k = c.loop-eight.eight in
    let from = c.args.from.now in
    let to = c.args.to in
    let at = c.args.at in
    let below : k * 8 + 8 ≤ c.args.eights * 8 = let less = c.loop-eight-test.true in omega (arith, less) in
    let read : (k * 8 + 8) * width ≤ c.args.eights * 8 * width = mul-le-mul_right width below in
    let written : (k * 8 + 8) * size ≤ c.args.eights * 8 * size = mul-le-mul_right size below in
    let next : k * 8 + 8 ≡ (k + 1) * 8 = omega arith in
    c.put_eight.ensures
    ∙ ap (λ (out : List ℕ). with_signed (to + k * 8 * size) size c.args.to_order from (at + k * 8 * width) width c.args.from_order 8 out)
    c.loop-eight.invariant
    ∙ signed_more size c.args.to_order from width c.args.from_order c.requires.width to at (k * 8) 8 c.args.out.now
    (omega (arith, read, c.requires.from)) (omega (arith, written, c.requires.out))
    ∙ ap (λ (n : ℕ). with_signed to size c.args.to_order from at width c.args.from_order n c.args.out.now) next
