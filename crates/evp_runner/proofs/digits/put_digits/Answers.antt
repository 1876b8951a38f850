use Rattle.std.proofs.Common.{◌≡◌, ◌∙◌, ◌*◌, ◌^◌, ◌<◌, List, ℕ, ℤ, length, ap, arith}
use Rattle.std.proofs.lemmas.Int.{to_z-of_z, to_z_pos}
use Rattle.std.specs.Int.{w128}
use Rattle.evp_base.specs.Numbers.{digits, residue}
use Rattle.evp_base.proofs.Complement.{width}
use Rattle.evp_base.proofs.Numbers.{length-digits}
use Rattle.evp_format.specs.Bytes.{put_at}
use Rattle.evp_runner.proofs.MidPut.{mid_put}
use Rattle.evp_runner.proofs.Residues.{digits-low}
use Rattle.evp_runner.proofs.digits.put_digits.Goals as goal

pub returns : goal.returns
returns c =
    let fits = c.ranges.number in
    let same = to_z-of_z w128 c.args.number fits in
    let is : c.low.result ≡ residue c.args.number (2 ^ (8 * c.args.size)) = c.low.ensures.value
    ∙ ap (λ (z : ℤ). residue z (2 ^ (8 * c.args.size))) same in
    let low = digits-low c.args.order c.args.size c.args.number c.low.result is c.low.ensures.below in
    let wide = width c.args.size c.requires.allowed in
    let half = wide.half in
    let greatest = wide.greatest in
    let below = c.low.ensures.below in
    let small : c.low.result < 2 ^ 127 = omega (arith, half, greatest, below) in
    let made : c.put_number.new.out ≡ digits c.args.order c.args.size c.args.number = c.put_number.ensures
    ∙ ap (digits c.args.order c.args.size) (to_z_pos w128 c.low.result small) ∙ low in
    mid_put c.args.t c.args.size c.args.out.now c.put_number.new.out
    (ap length made ∙ length-digits c.args.order c.args.size c.args.number) c.requires.inside
    ∙ ap (λ (l : List ℕ). put_at c.args.t l c.args.out.now) made
