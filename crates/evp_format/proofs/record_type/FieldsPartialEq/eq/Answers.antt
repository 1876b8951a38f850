use Rattle.std.proofs.Common.{◌≡◌, sym, ◌∙◌, rules}
use Rattle.evp_format.specs.Equality.{fields_eq}
use Rattle.evp_format.specs.Equalities.{fields_eq-Decides}
use Rattle.evp_format.proofs.record_type.FieldsPartialEq.eq.Goals as goal

pub returns-clause-same : goal.returns-clause-same
returns-clause-same c =
    let value : c.eq.result ≡ fields_eq c.args.self.now c.args.other.now = search rules in
    let same = fields_eq-Decides c.args.self.now c.args.other.now in
    (λ told. same.0 (sym value ∙ told), λ equal. value ∙ same.1 equal)
