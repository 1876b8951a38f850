use Rattle.std.proofs.Common.{◌∙◌, rules, get_or, pos}
use Rattle.std.proofs.lemmas.Int.{to_z-of_z}
use mir.Val.{SFits}
use mir.Syntax.{w128}
use Rattle.evp_value.proofs.Lengths.{number_at-within, number_at-past}
use Rattle.evp_value.proofs.numbers.number_at.Goals as goal

pub returns-then-k-numbers : goal.returns-then-k-numbers
returns-then-k-numbers c =
    let fits : SFits w128 (get_or c.args.numbers.now c.args.k (pos 0)) = search rules in
    to_z-of_z w128 (get_or c.args.numbers.now c.args.k (pos 0)) fits
    ∙ number_at-within c.args.numbers.now c.args.k (pos 0) c.if-k-numbers.true

pub returns : goal.returns
returns c = number_at-past c.args.numbers.now c.args.k c.if-k-numbers.false
