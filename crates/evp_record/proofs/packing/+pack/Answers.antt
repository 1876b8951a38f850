use Rattle.std.proofs.Common.{rules, ◌≡◌, ℕ, ◌+◌, ◌*◌, ◌∙◌, ap, sym, subst, refl, arith, add-one, length, drop, get_or, List, pos}
use Rattle.evp_format.proofs.Lists.{found_at}
use Rattle.evp_format.proofs.Trees.{tree_of-resolved, laid_tree}
use Rattle.evp_base.specs.Numbers.{digits}
use Rattle.evp_format.specs.Bytes.{next_block, put_at}
use Rattle.evp_format.specs.declared.field.Field.{Field}
use Rattle.evp_format.specs.declared.field.Shape.{Shape}
use Rattle.evp_format.specs.declared.record_type.RecordType.{RecordType}
use Rattle.evp_format.specs.Datum.{Elements, count_of}
use Rattle.evp_format.specs.Packing.{machine_of, pack_shaped}
use Rattle.evp_format.specs.Tree.{tree, tree_of, length_of, branches_of, trees}
use Rattle.evp_format.specs.Typed.{EachElement}
use Rattle.evp_format.specs.ValueView.{datum_of, elements_of_values, entries_of_pairs}
use Rattle.evp_format.specs.WellLaid.{shape_extent}
use Rattle.evp_record.proofs.Placed.{next_block-behind}
use Rattle.evp_record.proofs.Remaining.{IsPackingList, first_is_small, packing_next, packed_list, first_field_is_small, packing_next_field}
use Rattle.evp_record.proofs.Remaining.{packed_record}
use Rattle.evp_record.proofs.Steps.{count_of-elements_of_values, start_list, next_element, end_list, fixed_elements, counted_is_small}
use Rattle.evp_record.proofs.Steps.{counted_packs, start_record, pair_below, next_field, end_record, some_value, on_ok, counted_end}
use Rattle.evp_record.specs.Onto.{onto, grown, list_pieces, element_pieces, record_pieces, IsElementOf, AreSmall}
use Rattle.evp_record.proofs.packing.+pack.Goals as goal

pub pack_elements-loop-k-init : goal.pack_elements-loop-k-init
pack_elements-loop-k-init t c = start_list c.args.format.now c.args.field.now c.args.at c.args.out.now.items c.args.values.now
    c.requires.of_type c.requires.inside c.requires.small

pub pack_elements-pack_element-requires : goal.pack_elements-pack_element-requires
pack_elements-pack_element-requires t c =
    let layout = c.args.format.now in
    let field = c.args.field.now in
    let k = c.loop-k.k in
    let value = c.index-values-k.result in
    let rest = elements_of_values (drop (k + 1) c.args.values.now) in
    let start = c.args.out.now.items in
    let whole = list_pieces layout field c.args.at (elements_of_values c.args.values.now) 0 (length start) in
    let packing = next_element layout field c.args.at start whole c.loop-k.out.items k c.args.values.now value c.loop-k-test.true
    c.index-values-k.is c.loop-k.invariant in
    let first = first_is_small layout field c.args.at start whole c.loop-k.out.items k (datum_of value) rest c.requires.laid.laid packing in
    (search rules, (c.requires.laid, (packing.each.0, (first.1, first.0))))

pub pack_elements-loop-k-preserved : goal.pack_elements-loop-k-preserved
pack_elements-loop-k-preserved t c =
    let layout = c.args.format.now in
    let field = c.args.field.now in
    let k = c.loop-k.k in
    let value = c.index-values-k.result in
    let rest = elements_of_values (drop (k + 1) c.args.values.now) in
    let start = c.args.out.now.items in
    let whole = list_pieces layout field c.args.at (elements_of_values c.args.values.now) 0 (length start) in
    let packing = next_element layout field c.args.at start whole c.loop-k.out.items k c.args.values.now value c.loop-k-test.true
    c.index-values-k.is c.loop-k.invariant in
    let Packing : ℕ → Type 0 = λ n. IsPackingList layout field c.args.at start whole c.pack_element.new.out.items n rest in
    subst Packing (sym (add-one k))
    (packing_next layout field c.args.at start whole c.loop-k.out.items c.pack_element.new.out.items k (datum_of value) rest
    c.requires.laid.laid packing c.in_ok-pack_element.ensures)

pub pack_elements-returns : goal.pack_elements-returns
pack_elements-returns t c =
    let layout = c.args.format.now in
    let field = c.args.field.now in
    let start = c.args.out.now.items in
    let whole = list_pieces layout field c.args.at (elements_of_values c.args.values.now) 0 (length start) in
    packed_list layout field c.args.at start whole c.loop-k.out.items c.loop-k.k
    (end_list layout field c.args.at start whole c.loop-k.out.items c.loop-k.k c.args.values.now c.loop-k-test.false c.loop-k.invariant)

pub pack_field-pack_elements-requires : goal.pack_field-pack_elements-requires
pack_field-pack_elements-requires t c =
    let layout = c.args.format.now in
    let field = c.args.field.now in
    let datum = datum_of c.args.value.now in
    let values = c.listed.result.now in
    let size = length c.args.out.now.items in
    let P = IsElementOf layout field in
    let place = c.args.at + field.offset in
    let fixed = fixed_elements c.requires.of_type.0 field.shape c.in-Fixed.field-0 P datum c.in-Fixed.is c.requires.of_type.1 in
    let Typed : Elements → Type 0 = λ elements. EachElement P elements in
    let count : c.in-Fixed.field-0 ≡ length values = fixed.0 ∙ ap count_of (sym c.listed.ensures) ∙ count_of-elements_of_values values in
    let taken : shape_extent layout.pointer field.shape field.size ≡ length values * field.size =
    ap (λ (shape : Shape). shape_extent layout.pointer shape field.size) c.in-Fixed.is ∙ ap (λ (n : ℕ). n * field.size) count in
    let Small : Shape
    → Type 0 = λ shape. AreSmall (pack_shaped (machine_of layout) field shape c.args.at datum (element_pieces layout field) size) in
    let Small' : Elements → Type 0 = λ elements. AreSmall (list_pieces layout field place elements 0 size) in (
      search rules,
      (
        c.requires.laid,
        (
          subst Typed (sym c.listed.ensures) fixed.1,
          (omega (arith, c.requires.inside, taken), subst Small' (sym c.listed.ensures) (subst Small c.in-Fixed.is c.requires.small)),
        ),
      ),
    )

-- the bounds of a counted array that isn't empty
pub pack_counted-next_block-first-requires : goal.pack_counted-next_block-first-requires
pack_counted-next_block-first-requires t c =
    let size = length c.args.out.now.items in
    let some = some_value c.args.values.now c.if-is_empty.ensures in
    let small = counted_is_small c.args.format.now c.args.field.now c.args.at (elements_of_values c.args.values.now) size
    c.requires.laid.laid c.requires.of_type some c.requires.small in
    let behind = next_block-behind size in
    let ok = c.args.out.now.ok in
    omega (arith, small.0, behind, c.len.ensures, ok)

pub pack_counted-overflow_mul-values : goal.pack_counted-overflow_mul-values
pack_counted-overflow_mul-values t c =
    let layout = c.args.format.now in
    let field = c.args.field.now in
    let elements = elements_of_values c.args.values.now in
    let size = length c.args.out.now.items in
    let some = some_value c.args.values.now c.if-is_empty.ensures in
    let small = counted_is_small layout field c.args.at elements size c.requires.laid.laid c.requires.of_type some c.requires.small in
    let ok = c.args.out.now.ok in
    let q : c.next_block-first.result ≡ next_block size = c.next_block-first.ensures
    ∙ ap next_block (let same : c.len.result ≡ size = omega (arith, c.len.ensures, ok) in same) in
    let count = ap (λ (n : ℕ). n * field.size) (count_of-elements_of_values c.args.values.now) in
    let last : c.next_block-first.result + length c.args.values.now * field.size
    ≡ counted_end field elements size = omega (arith, q, count) in
    omega (arith, small.0, last)

pub pack_counted-overflow_add-first : goal.pack_counted-overflow_add-first
pack_counted-overflow_add-first t c =
    let layout = c.args.format.now in
    let field = c.args.field.now in
    let elements = elements_of_values c.args.values.now in
    let size = length c.args.out.now.items in
    let some = some_value c.args.values.now c.if-is_empty.ensures in
    let small = counted_is_small layout field c.args.at elements size c.requires.laid.laid c.requires.of_type some c.requires.small in
    let ok = c.args.out.now.ok in
    let q : c.next_block-first.result ≡ next_block size = c.next_block-first.ensures
    ∙ ap next_block (let same : c.len.result ≡ size = omega (arith, c.len.ensures, ok) in same) in
    let count = ap (λ (n : ℕ). n * field.size) (count_of-elements_of_values c.args.values.now) in
    let last : c.next_block-first.result + length c.args.values.now * field.size
    ≡ counted_end field elements size = omega (arith, q, count) in
    omega (arith, small.0, last)

pub pack_counted-put_pointer-requires-2-clause-small : goal.pack_counted-put_pointer-requires-2-clause-small
pack_counted-put_pointer-requires-2-clause-small t c =
    let layout = c.args.format.now in
    let field = c.args.field.now in
    let elements = elements_of_values c.args.values.now in
    let size = length c.args.out.now.items in
    let some = some_value c.args.values.now c.if-is_empty.ensures in
    let small = counted_is_small layout field c.args.at elements size c.requires.laid.laid c.requires.of_type some c.requires.small in
    let ok = c.args.out.now.ok in
    let q : c.next_block-first.result ≡ next_block size = c.next_block-first.ensures
    ∙ ap next_block (let same : c.len.result ≡ size = omega (arith, c.len.ensures, ok) in same) in
    let count = ap (λ (n : ℕ). n * field.size) (count_of-elements_of_values c.args.values.now) in
    let last : c.next_block-first.result + length c.args.values.now * field.size
    ≡ counted_end field elements size = omega (arith, q, count) in
    omega (arith, small.0, last)

pub pack_counted-pack_elements-requires : goal.pack_counted-pack_elements-requires
pack_counted-pack_elements-requires t c =
    let layout = c.args.format.now in
    let field = c.args.field.now in
    let elements = elements_of_values c.args.values.now in
    let size = length c.args.out.now.items in
    let some = some_value c.args.values.now c.if-is_empty.ensures in
    let small = counted_is_small layout field c.args.at elements size c.requires.laid.laid c.requires.of_type some c.requires.small in
    let ok = c.args.out.now.ok in
    let q : c.next_block-first.result ≡ next_block size = c.next_block-first.ensures
    ∙ ap next_block (let same : c.len.result ≡ size = omega (arith, c.len.ensures, ok) in same) in
    let count = ap (λ (n : ℕ). n * field.size) (count_of-elements_of_values c.args.values.now) in
    let last : c.next_block-first.result + length c.args.values.now * field.size
    ≡ counted_end field elements size = omega (arith, q, count) in
    let pointed : c.put_pointer-2.new.out.items ≡ put_at c.args.at (digits layout.order layout.pointer (pos (next_block size)))
    (grown c.args.out.now.items (counted_end field elements size)) =
    c.put_pointer-2.ensures ∙ ap (λ (n : ℕ). put_at c.args.at (digits layout.order layout.pointer (pos n)) c.grow.new.out.items) q
    ∙ ap (put_at c.args.at (digits layout.order layout.pointer (pos (next_block size))))
    (c.in_ok-grow.ensures ∙ ap (grown c.args.out.now.items) last) in
    let onto_pointed = onto c.put_pointer-2.new.out.items
    (list_pieces layout field (next_block size) elements 0 (length c.put_pointer-2.new.out.items)) in
    let packs = counted_packs layout field c.args.at elements c.args.out.now.items c.put_pointer-2.new.out.items onto_pointed
    c.requires.laid.laid c.requires.of_type some c.requires.inside pointed refl in
    let Small : ℕ → Type 0 = λ n. AreSmall (list_pieces layout field n elements 0 (length c.put_pointer-2.new.out.items)) in
    let Small' : ℕ → Type 0 = λ n. AreSmall (list_pieces layout field (next_block size) elements 0 n) in (
      search rules,
      (c.requires.laid, (c.requires.of_type, (omega (arith, packs.0, last), subst Small (sym q) (subst Small' (sym packs.0) small.1)))),
    )

pub pack_counted-returns : goal.pack_counted-returns
pack_counted-returns t c =
    let layout = c.args.format.now in
    let field = c.args.field.now in
    let elements = elements_of_values c.args.values.now in
    let size = length c.args.out.now.items in
    let some = some_value c.args.values.now c.if-is_empty.ensures in
    let small = counted_is_small layout field c.args.at elements size c.requires.laid.laid c.requires.of_type some c.requires.small in
    let ok = c.args.out.now.ok in
    let q : c.next_block-first.result ≡ next_block size = c.next_block-first.ensures
    ∙ ap next_block (let same : c.len.result ≡ size = omega (arith, c.len.ensures, ok) in same) in
    let count = ap (λ (n : ℕ). n * field.size) (count_of-elements_of_values c.args.values.now) in
    let last : c.next_block-first.result + length c.args.values.now * field.size
    ≡ counted_end field elements size = omega (arith, q, count) in
    let pointed : c.put_pointer-2.new.out.items ≡ put_at c.args.at (digits layout.order layout.pointer (pos (next_block size)))
    (grown c.args.out.now.items (counted_end field elements size)) =
    c.put_pointer-2.ensures ∙ ap (λ (n : ℕ). put_at c.args.at (digits layout.order layout.pointer (pos n)) c.grow.new.out.items) q
    ∙ ap (put_at c.args.at (digits layout.order layout.pointer (pos (next_block size))))
    (c.in_ok-grow.ensures ∙ ap (grown c.args.out.now.items) last) in
    let onto_pointed = onto c.put_pointer-2.new.out.items
    (list_pieces layout field (next_block size) elements 0 (length c.put_pointer-2.new.out.items)) in
    on_ok c.pack_elements.result _ _
    (λ packed.
    (counted_packs layout field c.args.at elements c.args.out.now.items c.put_pointer-2.new.out.items c.pack_elements.new.out.items
    c.requires.laid.laid c.requires.of_type some c.requires.inside pointed
    (packed ∙ ap (λ (n : ℕ). onto c.put_pointer-2.new.out.items
    (list_pieces layout field n elements 0 (length c.put_pointer-2.new.out.items))) q)).1)
    c.pack_elements.ensures

pub pack_record-bounds-pairs-k : goal.pack_record-bounds-pairs-k
pack_record-bounds-pairs-k t c =
    pair_below (trees c.args.format.now.types) (entries_of_pairs c.args.pairs.now) c.as_slice-fields.result.now c.args.pairs.now c.loop-k.k
    c.loop-k-test.true c.loop-k.invariant.typed

pub pack_record-loop-k-init : goal.pack_record-loop-k-init
pack_record-loop-k-init t c =
    let layout = c.args.format.now in
    let n = c.args.type_number in
    let type = c.index-types-type_number.result in
    let here = found_at c.types.result.now layout.types n type c.types.ensures.value (rw c.types.ensures.value c.requires.known)
    c.index-types-type_number.is in
    let fields_are = c.as_slice-fields.ensures ∙ ap (λ (t : RecordType). t.fields) (sym c.index-types-type_number.is) in
    let resolved = tree_of-resolved layout n type c.types.ensures.laid here
    ∙ ap (λ (fields : List Field). tree type.length (branches_of (trees layout.types) fields)) (sym fields_are) in
    let laid = laid_tree layout n type c.types.ensures.laid here in
    start_record layout n c.args.at type.length c.as_slice-fields.result.now c.args.pairs.now c.args.out.now.items resolved laid.1
    c.requires.of_type c.requires.inside c.requires.small

pub pack_record-pack_field-requires : goal.pack_record-pack_field-requires
pack_record-pack_field-requires t c =
    let layout = c.args.format.now in
    let n = c.args.type_number in
    let type = c.index-types-type_number.result in
    let field = c.index-fields-k.result in
    let k = c.loop-k.k in
    let fields = c.as_slice-fields.result.now in
    let pairs = c.args.pairs.now in
    let all = entries_of_pairs pairs in
    let start = c.args.out.now.items in
    let fixed = length_of (tree_of layout n) in
    let whole = record_pieces layout n c.args.at all (length start) in
    let here = found_at c.types.result.now layout.types n type c.types.ensures.value (rw c.types.ensures.value c.requires.known)
    c.index-types-type_number.is in
    let fields_are = c.as_slice-fields.ensures ∙ ap (λ (t : RecordType). t.fields) (sym c.index-types-type_number.is) in
    let there = found_at fields type.fields k field fields_are c.loop-k-test.true c.index-fields-k.is in
    let sized = ((c.types.ensures.laid.each_type n type here).each_field k field there).size_allowed in
    let below = pair_below (trees layout.types) all fields pairs k c.loop-k-test.true c.loop-k.invariant.typed in
    let packing = next_field layout c.args.at fixed all start whole c.loop-k.out.items k fields pairs field c.index-pairs-k.result
    c.loop-k-test.true below c.index-fields-k.is c.loop-k.invariant in
    let pair = get_or pairs k c.index-pairs-k.result in
    let first = first_field_is_small layout c.args.at fixed all start whole c.loop-k.out.items field
    (branches_of (trees layout.types) (drop (k + 1) fields)) pair.0 (datum_of pair.1)
    (entries_of_pairs (drop (k + 1) pairs)) packing in
    (search rules, (record { sized = sized; laid = packing.laid.1 }, ((all, packing.typed.1), (first.1, first.0))))

pub pack_record-loop-k-preserved : goal.pack_record-loop-k-preserved
pack_record-loop-k-preserved t c =
    let layout = c.args.format.now in
    let n = c.args.type_number in
    let field = c.index-fields-k.result in
    let k = c.loop-k.k in
    let fields = c.as_slice-fields.result.now in
    let pairs = c.args.pairs.now in
    let all = entries_of_pairs pairs in
    let start = c.args.out.now.items in
    let fixed = length_of (tree_of layout n) in
    let whole = record_pieces layout n c.args.at all (length start) in
    let below = pair_below (trees layout.types) all fields pairs k c.loop-k-test.true c.loop-k.invariant.typed in
    let packing = next_field layout c.args.at fixed all start whole c.loop-k.out.items k fields pairs field c.index-pairs-k.result
    c.loop-k-test.true below c.index-fields-k.is c.loop-k.invariant in
    let pair = get_or pairs k c.index-pairs-k.result in
    packing_next_field layout c.args.at fixed all start whole c.loop-k.out.items c.pack_field.new.out.items field
    (branches_of (trees layout.types) (drop (k + 1) fields)) pair.0 (datum_of pair.1)
    (entries_of_pairs (drop (k + 1) pairs)) packing c.in_ok-pack_field.ensures

pub pack_record-returns : goal.pack_record-returns
pack_record-returns t c =
    let layout = c.args.format.now in
    let n = c.args.type_number in
    let all = entries_of_pairs c.args.pairs.now in
    let start = c.args.out.now.items in
    let fixed = length_of (tree_of layout n) in
    let whole = record_pieces layout n c.args.at all (length start) in
    let rest = entries_of_pairs (drop c.loop-k.k c.args.pairs.now) in
    packed_record layout c.args.at fixed all start whole c.loop-k.out.items rest
    (end_record layout c.args.at fixed all start whole c.loop-k.out.items c.loop-k.k c.as_slice-fields.result.now rest c.loop-k-test.false
    c.loop-k.invariant)
