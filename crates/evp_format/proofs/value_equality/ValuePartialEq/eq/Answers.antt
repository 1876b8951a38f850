use Rattle.std.proofs.Common.{sym, ◌∙◌}
use Rattle.evp_format.specs.ValueEqualities.{datum_eq-Decides}
use Rattle.evp_format.specs.ValueView.{datum_of}
use Rattle.evp_format.proofs.value_equality.ValuePartialEq.eq.Goals as goal

pub returns-clause-same : goal.returns-clause-same
returns-clause-same c =
    let same = datum_eq-Decides (datum_of c.args.self.now) (datum_of c.args.other.now) in
    (λ told. same.0 (sym c.same_value.ensures ∙ told), λ equal. c.same_value.ensures ∙ same.1 equal)
