use Rattle.std.proofs.Common.{◌≡◌, sym, ap, ◌∙◌}
use Rattle.evp_format.specs.Datum.{Elements}
use Rattle.evp_format.specs.ValueEquality.{elements_eq, items_eq}
use Rattle.evp_format.specs.ValueEqualities.{elements_eq-Decides}
use Rattle.evp_format.specs.ValueView.{items_of, elements_of_values}
use Rattle.evp_format.proofs.ValueViews.{items_of-values}
use Rattle.evp_format.proofs.value_equality.ItemsPartialEq.eq.Goals as goal

pub returns-clause-same : goal.returns-clause-same
returns-clause-same c =
    let own : elements_of_values c.as_slice.result.now ≡ items_of c.args.self.now =
    ap elements_of_values c.as_slice.ensures.value ∙ sym (items_of-values c.args.self.now) in
    let others : elements_of_values c.as_slice-2.result.now ≡ items_of c.args.other.now =
    ap elements_of_values c.as_slice-2.ensures.value ∙ sym (items_of-values c.args.other.now) in
    let value : c.same_elements.result ≡ items_eq c.args.self.now c.args.other.now =
    c.same_elements.ensures ∙ ap (λ (es : Elements). elements_eq es (elements_of_values c.as_slice-2.result.now)) own
    ∙ ap (λ (es : Elements). elements_eq (items_of c.args.self.now) es) others in
    let same = elements_eq-Decides (items_of c.args.self.now) (items_of c.args.other.now) in
    (λ told. same.0 (sym value ∙ told), λ equal. value ∙ same.1 equal)
