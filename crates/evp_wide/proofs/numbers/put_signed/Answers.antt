use Rattle.std.proofs.Common.{◌≡◌, ℕ, ◌+◌, ◌*◌, ◌/◌, ◌%◌, ◌≤◌, List, length, sym, ap, subst, ◌∙◌, arith}
use Rattle.evp_wide.specs.Zeros.{with_signed}
use Rattle.evp_wide.proofs.SignedNumbers.{signed_more}
use Rattle.evp_wide.proofs.numbers.put_signed.Goals as goal

pub returns : goal.returns
returns c =
    let size = c.args.size in
    let width = c.args.width in
    let from = c.args.from.now in
    let to = c.args.to in
    let at = c.args.at in
    let done = c.args.n / 4 * 4 in
    let more = c.args.n % 4 in
    let all : done + more ≡ c.args.n = omega arith in
    c.put_few.ensures
    ∙ ap (λ (d : ℕ). with_signed (to + d * size) size c.args.to_order from (at + d * width) width c.args.from_order more c.put_fours-done.new.out)
    c.put_fours-done.ensures.done
    ∙ ap (λ (out : List ℕ). with_signed (to + done * size) size c.args.to_order from (at + done * width) width c.args.from_order more out)
    c.put_fours-done.ensures.put
    ∙ signed_more size c.args.to_order from width c.args.from_order c.requires.width to at done more c.args.out.now
    (subst (λ (n : ℕ). at + n * width ≤ length from) (sym all) c.requires.from)
    (subst (λ (n : ℕ). to + n * size ≤ length c.args.out.now) (sym all) c.requires.out)
    ∙ ap (λ (n : ℕ). with_signed to size c.args.to_order from at width c.args.from_order n c.args.out.now) all
