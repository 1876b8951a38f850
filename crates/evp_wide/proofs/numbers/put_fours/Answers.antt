use Rattle.std.proofs.Common.{◌≡◌, ℕ, ◌+◌, ◌*◌, ◌/◌, ◌%◌, ◌≤◌, List, ap, sym, ◌∙◌, mul-le-mul_right, arith}
use Rattle.evp_wide.specs.Zeros.{with_signed}
use Rattle.evp_wide.proofs.SignedNumbers.{signed_none, signed_more}
use Rattle.evp_wide.proofs.numbers.put_fours.Goals as goal
use Rattle.evp_wide.proofs.numbers.put_fours.Goals.{then-odd-eq4, else-odd-eq4}

pub returns-clause-put : goal.returns-clause-put
returns-clause-put c =
    let size = c.args.size in
    let width = c.args.width in
    let from = c.args.from.now in
    let to = c.args.to in
    let at = c.args.at in
    let n = c.args.n in
    let odd = n / 4 % 2 * 4 in
    let first : c.if-odd-eq4.out ≡ with_signed to size c.args.to_order from at width c.args.from_order odd c.args.out.now =
    elim c.if-odd-eq4.branch [
      | then-odd-eq4 w ↦
          w.out-is ∙ w.put_four.ensures
          ∙ ap (λ (k : ℕ). with_signed to size c.args.to_order from at width c.args.from_order k c.args.out.now) (sym w.if-odd-eq4.true)
      | else-odd-eq4 w ↦
          let other = w.if-odd-eq4.false in
          let none : odd ≡ 0 = omega (arith, other) in
          w.out-is
          ∙ signed_none size c.args.to_order from width c.args.from_order c.requires.width to at c.args.out.now (omega (arith, c.requires.from))
          ∙ ap (λ (k : ℕ). with_signed to size c.args.to_order from at width c.args.from_order k c.args.out.now) (sym none)
    ] in
    let all : odd + n / 8 * 8 ≡ n / 4 * 4 = omega arith in
    let below : odd + n / 8 * 8 ≤ n = omega arith in
    let read : (odd + n / 8 * 8) * width ≤ n * width = mul-le-mul_right width below in
    let written : (odd + n / 8 * 8) * size ≤ n * size = mul-le-mul_right size below in
    c.put_eights.ensures
    ∙ ap (λ (out : List ℕ). with_signed (to + odd * size) size c.args.to_order from (at + odd * width) width c.args.from_order (n / 8 * 8) out)
    first
    ∙ signed_more size c.args.to_order from width c.args.from_order c.requires.width to at odd (n / 8 * 8) c.args.out.now
    (omega (arith, read, c.requires.from)) (omega (arith, written, c.requires.out))
    ∙ ap (λ (k : ℕ). with_signed to size c.args.to_order from at width c.args.from_order k c.args.out.now) all
