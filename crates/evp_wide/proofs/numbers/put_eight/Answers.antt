use Rattle.std.proofs.Common.{ℕ, ◌+◌, ◌*◌, List, ap, ◌∙◌, arith}
use Rattle.evp_wide.specs.Zeros.{with_signed}
use Rattle.evp_wide.proofs.SignedNumbers.{signed_more}
use Rattle.evp_wide.proofs.numbers.put_eight.Goals as goal

pub returns : goal.returns
returns c =
    let size = c.args.size in
    let width = c.args.width in
    let from = c.args.from.now in
    c.put_four-2.ensures
    ∙ ap (λ (out : List ℕ). with_signed (c.args.to + 4 * size) size c.args.to_order from (c.args.at + 4 * width) width c.args.from_order 4 out)
    c.put_four.ensures
    ∙ signed_more size c.args.to_order from width c.args.from_order c.requires.width c.args.to c.args.at 4 4 c.args.out.now
    (omega (arith, c.requires.from)) (omega (arith, c.requires.out))
