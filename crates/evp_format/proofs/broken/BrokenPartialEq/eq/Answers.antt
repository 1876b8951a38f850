use Rattle.std.proofs.Common.{◌≡◌, sym, ◌∙◌, rules}
use Rattle.evp_format.specs.Sameness.{broken_eq}
use Rattle.evp_format.specs.Samenesses.{broken_eq-Decides}
use Rattle.evp_format.proofs.broken.BrokenPartialEq.eq.Goals as goal

pub returns-then-kind-clause-same : goal.returns-then-kind-clause-same
returns-then-kind-clause-same c =
    let value : c.eq.result ≡ broken_eq c.args.self.now c.args.other.now = search rules in
    let same = broken_eq-Decides c.args.self.now c.args.other.now in
    (λ told. same.0 (sym value ∙ told), λ equal. value ∙ same.1 equal)
