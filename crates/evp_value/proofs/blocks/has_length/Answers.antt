use Rattle.std.proofs.Common.{ℕ, ℤ, nat_eq, nat_abs, sym, ap, ◌∙◌, rules, length}
use Rattle.std.proofs.lemmas.Int.{to_z-of_z}
use mir.Val.{SFits}
use mir.Syntax.{w128}
use Rattle.evp_format.specs.ValueView.{elements_of_values}
use Rattle.evp_value.specs.Making.{has_length}
use Rattle.evp_value.proofs.Lengths.{count_of-values, has_length-counted, not_below}
use Rattle.evp_value.proofs.blocks.has_length.Goals as goal

pub returns-in-Some : goal.returns-in-Some
returns-in-Some c =
    let fits : SFits w128 c.args.count = search rules in
    let same = to_z-of_z w128 c.args.count fits in
    let above = not_below c.args.count (rw same at c.if-count-lt0.false) in
    let values = c.in-Some.values.now in
    ap (λ (z : ℤ). nat_eq (length values) (nat_abs z)) same ∙ ap (λ (n : ℕ). nat_eq n (nat_abs c.args.count)) (sym (count_of-values values))
    ∙ has_length-counted c.args.count (elements_of_values values) above ∙ ap (has_length c.args.count) c.in-Some.ensures
