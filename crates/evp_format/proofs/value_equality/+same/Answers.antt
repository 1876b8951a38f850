use Rattle.std.proofs.Common.{◌≡◌, ◌+◌, ◌<◌, Bool, true, ◌&&◌, nat_eq, drop, length, sym, ap, ◌∙◌, arith, rules}
use Rattle.std.specs.Cmp.Lexicographic.{pointwise}
use Rattle.evp_format.specs.Datum.{Datum, rec}
use Rattle.evp_format.specs.ValueEquality.{datum_eq}
use Rattle.evp_format.specs.ValueView.{datum_of, entries_of_pairs}
use Rattle.evp_format.specs.declared.value.Value.{the_lemmas}
use Rattle.evp_format.proofs.SameValues.{same_lists, same_fields, unlike_lists, unlike_fields, next_values, next_fields}
use Rattle.evp_format.proofs.SameValues.{and_goes_on, not_true, not_false}
use Rattle.evp_format.proofs.value_equality.+same.Goals as goal

pub same_elements-returns-then-values-others : goal.same_elements-returns-then-values-others
same_elements-returns-then-values-others t c =
    sym (unlike_lists c.args.values.now c.args.others.now c.if-values-others.true)

pub same_entries-returns-then-pairs-others : goal.same_entries-returns-then-pairs-others
same_entries-returns-then-pairs-others t c =
    sym (unlike_fields c.args.pairs.now c.args.others.now c.if-pairs-others.true)

pub same_elements-loop-k-preserved : goal.same_elements-loop-k-preserved
same_elements-loop-k-preserved t c =
    let values = c.args.values.now in
    let others = c.args.others.now in
    let k = c.loop-k.k in
    let value = c.index-values-k.result in
    let other = c.index-others-k.result in
    let below : k < length others = omega (arith, c.if-values-others.false, c.loop-k-test.true) in
    let step = next_values values others k value other c.loop-k-test.true below c.index-values-k.is c.index-others-k.is in
    let same : datum_eq (datum_of value) (datum_of other) ≡ true = sym c.same_value.ensures ∙ c.if-not-same_value.false in
    sym (step ∙ and_goes_on (datum_eq (datum_of value) (datum_of other)) (same_lists (drop (k + 1) values) (drop (k + 1) others)) same)
    ∙ c.loop-k.invariant

pub same_entries-loop-k-preserved : goal.same_entries-loop-k-preserved
same_entries-loop-k-preserved t c =
    let pairs = c.args.pairs.now in
    let others = c.args.others.now in
    let k = c.loop-k.k in
    let pair = c.index-pairs-k.result in
    let other = c.index-others-k.result in
    let below : k < length others = omega (arith, c.if-pairs-others.false, c.loop-k-test.true) in
    let step = next_fields pairs others k pair other c.loop-k-test.true below c.index-pairs-k.is c.index-others-k.is in
    let named = not_false (pointwise nat_eq pair.0 other.0) (sym c.ne.ensures ∙ c.if-ne.false) in
    let same : datum_eq (datum_of pair.1) (datum_of other.1) ≡ true = sym c.same_value.ensures ∙ c.if-not-same_value.false in
    let left = same_fields (drop (k + 1) pairs) (drop (k + 1) others) in
    let rest = datum_eq (datum_of pair.1) (datum_of other.1) && left in
    sym (step ∙ and_goes_on (pointwise nat_eq pair.0 other.0) rest named
    ∙ and_goes_on (datum_eq (datum_of pair.1) (datum_of other.1)) left same)
    ∙ c.loop-k.invariant

pub same_entries-returns-then-ne : goal.same_entries-returns-then-ne
same_entries-returns-then-ne t c =
    let pairs = c.args.pairs.now in
    let others = c.args.others.now in
    let k = c.loop-k.k in
    let pair = c.index-pairs-k.result in
    let other = c.index-others-k.result in
    let below : k < length others = omega (arith, c.if-pairs-others.false, c.loop-k-test.true) in
    let step = next_fields pairs others k pair other c.loop-k-test.true below c.index-pairs-k.is c.index-others-k.is in
    let unlike = not_true (pointwise nat_eq pair.0 other.0) (sym c.ne.ensures ∙ c.if-ne.true) in
    let rest = datum_eq (datum_of pair.1) (datum_of other.1) && same_fields (drop (k + 1) pairs) (drop (k + 1) others) in
    sym (ap (λ (b : Bool). b && rest) unlike) ∙ sym step ∙ c.loop-k.invariant

pub same_value-returns-in-Rec-Rec : goal.same_value-returns-in-Rec-Rec
same_value-returns-in-Rec-Rec t c =
    let fields : datum_of c.args.value.now ≡ rec (entries_of_pairs c.as_slice-in-Rec-Rec.result.now) =
    rw (c.in-Rec-Rec.is-0, c.as_slice-in-Rec-Rec.ensures.value) (search (rules, the_lemmas)) in
    let others : datum_of c.args.other.now ≡ rec (entries_of_pairs c.as_slice-in-Rec-Rec-2.result.now) =
    rw (c.in-Rec-Rec.is-1, c.as_slice-in-Rec-Rec-2.ensures.value) (search (rules, the_lemmas)) in
    c.same_entries.ensures
    ∙ sym (ap (λ (d : Datum). datum_eq d (datum_of c.args.other.now)) fields
    ∙ ap (λ (d : Datum). datum_eq (rec (entries_of_pairs c.as_slice-in-Rec-Rec.result.now)) d) others)
