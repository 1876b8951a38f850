use Rattle.std.proofs.Common.{◌≡◌, ℕ, ◌+◌, ◌∙◌, sym, ap, refl, List, Some, arith}
use Rattle.std.specs.Prelude.{IsSome}
use Rattle.evp_format.specs.declared.value.Value.{Value}
use Rattle.evp_format.specs.Datum.{Datum, Entries, rec}
use Rattle.evp_format.specs.ValueView.{entries_of_pairs, elements_of_values}
use Rattle.evp_format.proofs.ValueViews.{datum_of-values, datum_of-pairs}
use Rattle.evp_record.specs.Class.{field_at}
use Rattle.evp_record.specs.Spots.{part_at, value_at}
use Rattle.evp_record.proofs.Entries.{entries_in, entries_behind, entries_behind-all, joined, joined-none, joined-pair, elements_in}
use Rattle.evp_record.proofs.Entries.{elements_behind, linked, linked-value, linked-all}
use Rattle.evp_record.proofs.Laid.{laid_at, field_below}
use Rattle.evp_format.proofs.LaidBases.{rank-le}
use Rattle.evp_record.proofs.Reading.{part_read, record_read}
use Rattle.evp_record.proofs.whole.+values.Goals as goal

pub field_value-part_value-requires : goal.field_value-part_value-requires
field_value-part_value-requires t c =
    let made = c.single.ensures in
    let at = laid_at c.args.item.now.layout c.args.spot.type_number c.args.index c.single.result.field.now made.laid made.field in
    let falls = rank-le c.args.item.now.layout.pointer c.args.item.now.layout.types c.args.spot.type_number c.single.result.field.now.base
    c.single.result.field.now.size at.laid.size_allowed in
    (omega (arith, falls), (made.laid, (made.kept, made.stands)))

pub list_value-part_value-requires : goal.list_value-part_value-requires
list_value-part_value-requires t c =
    let made = c.element.ensures in
    let at = laid_at c.args.item.now.layout c.args.spot.type_number c.args.index c.element.result.field.now made.laid made.field in
    let falls = rank-le c.args.item.now.layout.pointer c.args.item.now.layout.types c.args.spot.type_number c.element.result.field.now.base
    c.element.result.field.now.size at.laid.size_allowed in
    (omega (arith, falls), (made.laid, (made.kept, made.stands)))

pub list_value-loop-k-preserved : goal.list_value-loop-k-preserved
list_value-loop-k-preserved t c =
    let part = part_at c.args.item.now c.args.spot c.args.index in
    let value = c.in_ok-part_value.field-0 in
    let found = c.element.ensures.value ∙ ap (λ (d : Datum). Some d) (sym c.in_ok-part_value.ensures) in
    ap (λ (values : List Value). linked (elements_of_values values) (elements_behind (c.loop-k.k + 1) (elements_in part)))
    c.in_ok-push.ensures.items
    ∙ linked-value c.loop-k.values.items value part c.loop-k.k found c.loop-k.invariant

pub list_value-returns : goal.list_value-returns
list_value-returns t c =
    let part = part_at c.args.item.now c.args.spot c.args.index in
    let ended : c.loop-k.k ≡ c.list_len-k-end.result = omega arith in
    let all = linked-all c.loop-k.values.items part c.loop-k.k (c.list_len-k-end.ensures ∙ ap (λ (n : ℕ). Some n) (sym ended))
    c.loop-k.invariant in
    all ∙ ap (λ (d : Datum). Some d) (sym (datum_of-values c.loop-k.values))

pub record_value-field-requires : goal.record_value-field-requires
record_value-field-requires t c =
    let layout = c.args.item.now.layout in
    let many = c.fields_len-index-end.ensures.count in
    let field = field_below layout c.args.spot.type_number c.loop-index.index (omega (arith, many)) in
    let present : IsSome (field_at layout c.args.spot.type_number c.loop-index.index) = rw field.1 refl in
    present

pub record_value-loop-index-preserved : goal.record_value-loop-index-preserved
record_value-loop-index-preserved t c =
    let held = c.args.item.now in
    let whole = value_at held c.args.spot in
    let field = c.field.result.now in
    let r = part_read held c.args.spot c.loop-index.index field c.fields_len-index-end.ensures.laid c.requires c.field.ensures.value in
    ap (λ (pairs : List (List ℕ × Value)). joined (entries_of_pairs pairs) (entries_behind (c.loop-index.index + 1) (entries_in whole)))
    c.in_ok-push.ensures.items
    ∙ joined-pair c.loop-index.pairs.items field.name c.in_ok-value.value whole c.loop-index.index r.named c.in_ok-value.ensures
    c.loop-index.invariant

pub record_value-returns : goal.record_value-returns
record_value-returns t c =
    let held = c.args.item.now in
    let whole = value_at held c.args.spot in
    let r = record_read held c.args.spot c.fields_len-index-end.ensures.laid c.requires in
    let many = c.fields_len-index-end.ensures.count in
    let count = r.count in
    let none = entries_behind-all (entries_in whole) c.loop-index.index (omega (arith, many, count)) in
    let same : entries_of_pairs c.loop-index.pairs.items ≡ entries_in whole =
    sym (joined-none (entries_of_pairs c.loop-index.pairs.items))
    ∙ ap (λ (e : Entries). joined (entries_of_pairs c.loop-index.pairs.items) e) (sym none) ∙ c.loop-index.invariant in
    datum_of-pairs c.loop-index.pairs ∙ ap (λ (e : Entries). rec e) same ∙ sym r.value
