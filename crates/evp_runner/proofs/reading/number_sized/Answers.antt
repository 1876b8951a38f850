use Rattle.std.proofs.Common.{◌≡◌, ◌+◌, ◌-◌, ◌∙◌, refl, rules, arith}
use Rattle.std.proofs.lemmas.Int.{to_z-of_z}
use mir.Val.{SFits}
use mir.Syntax.{w128}
use Rattle.evp_runner.proofs.reading.number_sized.Goals as goal

pub returns-clause-value : goal.returns-clause-value
returns-clause-value c =
    let fits : SFits w128 c.get_number.result = search rules in
    let size : (c.args.s + c.args.size) - c.args.s ≡ c.args.size = omega arith in
    to_z-of_z w128 c.get_number.result fits ∙ c.get_number.ensures.value ∙ rw size refl
