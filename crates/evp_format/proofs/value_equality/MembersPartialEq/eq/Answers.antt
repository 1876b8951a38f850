use Rattle.std.proofs.Common.{◌≡◌, sym, ap, ◌∙◌}
use Rattle.evp_format.specs.Datum.{Entries}
use Rattle.evp_format.specs.ValueEquality.{entries_eq, members_eq}
use Rattle.evp_format.specs.ValueEqualities.{entries_eq-Decides}
use Rattle.evp_format.specs.ValueView.{members_of, entries_of_pairs}
use Rattle.evp_format.proofs.ValueViews.{members_of-pairs}
use Rattle.evp_format.proofs.value_equality.MembersPartialEq.eq.Goals as goal

pub returns-clause-value : goal.returns-clause-value
returns-clause-value c =
    let own : entries_of_pairs c.as_slice.result.now ≡ members_of c.args.self.now =
    ap entries_of_pairs c.as_slice.ensures.value ∙ sym (members_of-pairs c.args.self.now) in
    let others : entries_of_pairs c.as_slice-2.result.now ≡ members_of c.args.other.now =
    ap entries_of_pairs c.as_slice-2.ensures.value ∙ sym (members_of-pairs c.args.other.now) in
    c.same_entries.ensures ∙ ap (λ (es : Entries). entries_eq es (entries_of_pairs c.as_slice-2.result.now)) own
    ∙ ap (λ (es : Entries). entries_eq (members_of c.args.self.now) es) others

pub returns-clause-same : goal.returns-clause-same
returns-clause-same c =
    let value : c.same_entries.result ≡ members_eq c.args.self.now c.args.other.now = returns-clause-value c in
    let same = entries_eq-Decides (members_of c.args.self.now) (members_of c.args.other.now) in
    (λ told. same.0 (sym value ∙ told), λ equal. value ∙ same.1 equal)
