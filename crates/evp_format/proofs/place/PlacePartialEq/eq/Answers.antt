use Rattle.std.proofs.Common.{◌≡◌, sym, ◌∙◌, rules}
use Rattle.evp_format.specs.Sameness.{steps_eq}
use Rattle.evp_format.specs.Samenesses.{steps_eq-Decides}
use Rattle.evp_format.proofs.place.PlacePartialEq.eq.Goals as goal

pub returns-clause-same : goal.returns-clause-same
returns-clause-same c =
    let value : c.eq.result ≡ steps_eq c.args.self.now c.args.other.now = search rules in
    let same = steps_eq-Decides c.args.self.now c.args.other.now in
    (λ told. same.0 (sym value ∙ told), λ equal. value ∙ same.1 equal)
