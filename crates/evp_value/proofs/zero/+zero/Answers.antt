use Rattle.std.proofs.Common.{rules, ◌≡◌, ◌∙◌, sym, ap, take, List}
use Rattle.std.proofs.lemmas.List.{take_all}
use Rattle.evp_format.proofs.Lists.{found_at}
use Rattle.evp_format.proofs.Trees.{tree_of-resolved}
use Rattle.evp_format.proofs.ValueViews.{datum_of-values, datum_of-pairs}
use Rattle.evp_format.specs.Datum.{list, rec}
use Rattle.evp_format.specs.declared.field.Field.{Field}
use Rattle.evp_format.specs.declared.field.Shape.{Shape}
use Rattle.evp_format.specs.declared.record_type.RecordType.{RecordType}
use Rattle.evp_format.specs.declared.value.Value.{Value}
use Rattle.evp_format.specs.Tree.{trees, part_of}
use Rattle.evp_format.specs.ValueView.{elements_of_values, entries_from}
use Rattle.evp_format.specs.Zero.{zero_part, zero_tree}
use Rattle.evp_value.proofs.Zeros.{elements_of_values-more, seen_pairs-more, zero_branches-laid, seen_pairs, zero_pairs}
use Rattle.evp_value.specs.ZeroField.{zero_at, zero_of_field}
use Rattle.evp_value.proofs.zero.+zero.Goals as goal

pub zero_elements-loop-preserved : goal.zero_elements-loop-preserved
zero_elements-loop-preserved t c =
    ap elements_of_values c.in_ok-push.ensures.items
    ∙ elements_of_values-more c.loop.values.items c.in_ok-zero_element.field-0
    (zero_part (part_of (trees c.args.format.now.types) c.args.field.base)) c.loop.counter c.loop.invariant
    c.in_ok-zero_element.ensures

pub zero_field-returns-in_ok-values-in-Fixed : goal.zero_field-returns-in_ok-values-in-Fixed
zero_field-returns-in_ok-values-in-Fixed t c =
    let part = part_of (trees c.args.format.now.types) c.args.field.base in
    datum_of-values c.in_ok-values-in-Fixed.values ∙ ap list c.in_ok-values-in-Fixed.ensures
    ∙ sym (ap (λ (shape : Shape). zero_at c.args.field shape part) c.in-Fixed.is)

pub zero_field-returns-in-Counted : goal.zero_field-returns-in-Counted
zero_field-returns-in-Counted t c =
    let part = part_of (trees c.args.format.now.types) c.args.field.base in
    datum_of-values c.new.result ∙ ap (λ (values : List Value). list (elements_of_values values)) c.new.ensures.items
    ∙ sym (ap (λ (shape : Shape). zero_at c.args.field shape part) c.in-Counted.is)

pub zero_record-zero_field-requires : goal.zero_record-zero_field-requires
zero_record-zero_field-requires t c =
    let type = c.index-types-type_number.result in
    let field = c.field-item.result in
    let here = found_at c.types.result.now c.args.format.now.types c.args.type_number type c.types.ensures.value
    (rw c.types.ensures.value c.requires) c.index-types-type_number.is in
    let fields_are = c.as_slice-fields.ensures ∙ ap (λ (t : RecordType). t.fields) (sym c.index-types-type_number.is) in
    let there = found_at c.as_slice-fields.result.now type.fields c.loop-field.field-index field fields_are c.loop-field-test.true
    c.field-item.is in (
      search rules,
      ((c.types.ensures.laid.each_type c.args.type_number type here).each_field c.loop-field.field-index field there).size_allowed,
    )

pub zero_record-loop-field-preserved : goal.zero_record-loop-field-preserved
zero_record-loop-field-preserved t c =
    let k = c.loop-field.field-index in
    let fields = c.as_slice-fields.result.now in
    let ts = trees c.args.format.now.types in
    let field = c.field-item.result in
    let value = c.in_ok-value.value in
    ap seen_pairs c.in_ok-push.ensures.items
    ∙ seen_pairs-more ts fields c.loop-field.pairs.items field.name value k field c.loop-field-test.true c.loop-field.invariant
    (ap (λ (f : Field). f.name) c.field-item.is)
    (c.in_ok-value.ensures ∙ ap (zero_of_field ts) c.field-item.is)

pub zero_record-returns : goal.zero_record-returns
zero_record-returns t c =
    let n = c.args.type_number in
    let types = c.args.format.now.types in
    let type = c.index-types-type_number.result in
    let here = found_at c.types.result.now types n type c.types.ensures.value (rw c.types.ensures.value c.requires)
    c.index-types-type_number.is in
    let laid = c.types.ensures.laid in
    let made = zero_branches-laid c.args.format.now.pointer (take n types) type (trees types) (laid.each_type n type here) in
    let resolved = tree_of-resolved c.args.format.now n type laid here in
    let fields = c.as_slice-fields.result.now in
    let fields_are = c.as_slice-fields.ensures ∙ ap (λ (t : RecordType). t.fields) (sym c.index-types-type_number.is) in
    let all : take c.loop-field.field-index fields ≡ type.fields = take_all c.loop-field.field-index fields c.loop-field-test.false
    ∙ fields_are in
    datum_of-pairs c.loop-field.pairs
    ∙ ap rec (ap entries_from c.loop-field.invariant ∙ ap (λ (some : List Field). entries_from (zero_pairs (trees types) some)) all
    ∙ sym made) ∙ sym (ap zero_tree resolved)
