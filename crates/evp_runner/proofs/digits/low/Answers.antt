use Rattle.std.proofs.Common.{◌∙◌, ℕ, ◌-◌, ◌%◌, ◌^◌, ◌*◌, ℤ, pos, ◌-ℤ◌, ◌+ℤ◌, ap, sym, arith, rules}
use Rattle.std.proofs.lemmas.Int.{ints, to_z-of_z}
use mir.Syntax.{w128}
use mir.Val.{SFits}
use Rattle.evp_runner.proofs.Residues.{residue-below}
use Rattle.evp_runner.proofs.digits.low.Goals as goal

pub returns-else-number-ge0-clause-value : goal.returns-else-number-ge0-clause-value
returns-else-number-ge0-clause-value c =
    let fits : SFits w128 c.args.number = search rules in
    let far = c.distance.ensures ∙ ap (λ (z : ℤ). pos 0 -ℤ (z +ℤ pos 1)) (to_z-of_z w128 c.args.number fits) in
    ap (λ (r : ℕ). c.modulus_of-modulus.result - 1 - r) c.remainder-else-number-ge0.ensures
    ∙ ap (λ (m : ℕ). m - 1 - c.distance.result % m) c.modulus_of-modulus.ensures
    ∙ sym (residue-below c.args.number (2 ^ (8 * c.args.size)) c.distance.result (omega (arith, ints)) far)
