use Rattle.std.proofs.Common.{◌≡◌, sym, ◌∙◌, rules}
use Rattle.evp_base.specs.Path.{path_eq}
use Rattle.evp_base.specs.Equalities.{path_eq-Decides}
use Rattle.evp_base.proofs.field_path.FieldPathPartialEq.eq.Goals as goal

pub returns-clause-same : goal.returns-clause-same
returns-clause-same c =
    let value : c.eq.result ≡ path_eq c.args.self.now c.args.other.now = search rules in
    let same = path_eq-Decides c.args.self.now c.args.other.now in
    (λ told. same.0 (sym value ∙ told), λ equal. value ∙ same.1 equal)
