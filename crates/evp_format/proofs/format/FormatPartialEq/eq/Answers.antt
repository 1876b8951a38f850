use Rattle.std.proofs.Common.{◌≡◌, sym, ◌∙◌, rules}
use Rattle.evp_format.specs.Equality.{layout_eq}
use Rattle.evp_format.specs.Equalities.{layout_eq-Decides}
use Rattle.evp_format.proofs.format.FormatPartialEq.eq.Goals as goal

pub returns-then-self-other-clause-same : goal.returns-then-self-other-clause-same
returns-then-self-other-clause-same c =
    let value : c.eq.result ≡ layout_eq c.args.self.now c.args.other.now = search rules in
    let same = layout_eq-Decides c.args.self.now c.args.other.now in
    (λ told. same.0 (sym value ∙ told), λ equal. value ∙ same.1 equal)
