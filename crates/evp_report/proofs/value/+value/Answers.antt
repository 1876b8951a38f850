use Rattle.std.proofs.Common.{◌≡◌, ℕ, ◌∙◌, sym, ap, codes, refl, Some}
use Rattle.std.proofs.Common.{arith, length}
use Rattle.evp_format.specs.ValueText.{value_text}
use Rattle.evp_record.specs.Spots.{part_at, value_at}
use Rattle.evp_record.specs.Parts.{list_length}
use Rattle.evp_record.proofs.Entries.{entries_in}
use Rattle.evp_record.proofs.Reading.{part_read, record_read}
use Rattle.evp_report.specs.FieldText.{comma, part_text, text_there}
use Rattle.evp_report.proofs.ElementsLeft.{element_there, elements_from, elements_ended, list_text}
use Rattle.evp_report.proofs.FieldsLeft.{field_read, fields_from, fields_ended, named_text}
use Rattle.evp_report.proofs.FieldsLeft.{record_text}
use Rattle.evp_report.proofs.Passed.{begun, broken, broken_first, ended, gone_on}
use Rattle.evp_report.proofs.value.+value.Goals as goal

pub put_element-put_record-requires : goal.put_element-put_record-requires
put_element-put_record-requires g t c κs within =
    (omega (arith, c.record_in.ensures.earlier), (within, c.record_in.ensures.reached))

pub put_single-put_record-requires : goal.put_single-put_record-requires
put_single-put_record-requires g t c κs within =
    (omega (arith, c.record_at.ensures.earlier), (within, c.record_at.ensures.reached))

pub put_field-returns-in_err-put_name : goal.put_field-returns-in_err-put_name
put_field-returns-in_err-put_name g t c =
    let named = rw c.as_bytes.ensures.value at c.in_err-put_name.ensures in
    broken_first g.K.Sink.faults g.K.Sink.put c.args.sink.now c.put_name.new.sink c.args.pieces.now
    c.put_name.new.pieces _
    (part_text c.args.item.now c.args.part.spot c.args.part.index) _ _ c.from_residual.result
    refl refl
    c.from_residual.ensures.0 named

pub put_field-returns-in-One : goal.put_field-returns-in-One
put_field-returns-in-One g t c =
    let first = rw c.as_bytes.ensures.value at c.in_ok-put_name.ensures in
    let text = part_text c.args.item.now c.args.part.spot c.args.part.index in
    ended g.K.Sink.faults g.K.Sink.put c.args.sink.now c.put_name.new.sink c.put_single.new.sink
    c.args.pieces.now
    c.put_name.new.pieces c.put_single.new.pieces text _ c.put_single.result
    (begun g.K.Sink.faults g.K.Sink.put c.args.sink.now c.put_name.new.sink c.args.pieces.now
    c.put_name.new.pieces _
    text _ first.faults first.passed refl)
    c.put_single.ensures

pub put_field-returns-in-Fixed : goal.put_field-returns-in-Fixed
put_field-returns-in-Fixed g t c =
    let first = rw c.as_bytes.ensures.value at c.in_ok-put_name.ensures in
    let text = part_text c.args.item.now c.args.part.spot c.args.part.index in
    ended g.K.Sink.faults g.K.Sink.put c.args.sink.now c.put_name.new.sink c.put_list.new.sink
    c.args.pieces.now
    c.put_name.new.pieces c.put_list.new.pieces text _ c.put_list.result
    (begun g.K.Sink.faults g.K.Sink.put c.args.sink.now c.put_name.new.sink c.args.pieces.now
    c.put_name.new.pieces _
    text _ first.faults first.passed refl)
    c.put_list.ensures

pub put_list-returns-in_err-put : goal.put_list-returns-in_err-put
put_list-returns-in_err-put g t c =
    let part = part_at c.args.item.now c.args.part.spot c.args.part.index in
    broken_first g.K.Sink.faults g.K.Sink.put c.args.sink.now c.put.new.sink c.args.pieces.now
    c.put.new.self (codes "[") _
    (text_there part) _ c.from_residual.result
    (list_text part c.list_len-count.result c.list_len-count.ensures) refl
    c.from_residual.ensures.0 c.in_err-put.ensures

pub put_list-loop-k-init : goal.put_list-loop-k-init
put_list-loop-k-init g t c =
    let part = part_at c.args.item.now c.args.part.spot c.args.part.index in
    let first = c.in_ok-put.ensures in
    begun g.K.Sink.faults g.K.Sink.put c.args.sink.now c.put.new.sink c.args.pieces.now
    c.put.new.self (codes "[") _ _
    first.faults first.passed (list_text part c.list_len-count.result c.list_len-count.ensures)

pub put_list-returns-in_err-put_comma : goal.put_list-returns-in_err-put_comma
put_list-returns-in_err-put_comma g t c =
    let part = part_at c.args.item.now c.args.part.spot c.args.part.index in
    let k = c.loop-k.k in
    let here = element_there part c.list_len-count.result k c.list_len-count.ensures
    c.loop-k-test.true in
    broken g.K.Sink.faults g.K.Sink.put c.args.sink.now c.loop-k.sink c.put_comma.new.sink
    c.args.pieces.now
    c.loop-k.pieces c.put_comma.new.pieces (comma k) _ _ (text_there part) _
    c.from_residual-in_err-put_comma.result
    c.loop-k.invariant (elements_from part k here.0 here.1) refl
    c.from_residual-in_err-put_comma.ensures.0
    c.in_err-put_comma.ensures

pub put_list-returns-in_err-put_element : goal.put_list-returns-in_err-put_element
put_list-returns-in_err-put_element g t c =
    let part = part_at c.args.item.now c.args.part.spot c.args.part.index in
    let k = c.loop-k.k in
    let here = element_there part c.list_len-count.result k c.list_len-count.ensures
    c.loop-k-test.true in
    let first = c.in_ok-put_comma.ensures in
    broken g.K.Sink.faults g.K.Sink.put c.args.sink.now c.put_comma.new.sink c.put_element.new.sink
    c.args.pieces.now
    c.put_comma.new.pieces c.put_element.new.pieces (value_text here.0) _ _ (text_there part) _
    c.from_residual-in_err-put_element.result
    (gone_on g.K.Sink.faults g.K.Sink.put c.args.sink.now c.loop-k.sink c.put_comma.new.sink
    c.args.pieces.now
    c.loop-k.pieces c.put_comma.new.pieces (comma k) _ _ (text_there part)
    c.loop-k.invariant
    (elements_from part k here.0 here.1) first.faults first.passed)
    refl refl c.from_residual-in_err-put_element.ensures.0
    (rw (ap text_there here.1) at c.in_err-put_element.ensures)

pub put_list-loop-k-preserved : goal.put_list-loop-k-preserved
put_list-loop-k-preserved g t c =
    let part = part_at c.args.item.now c.args.part.spot c.args.part.index in
    let k = c.loop-k.k in
    let here = element_there part c.list_len-count.result k c.list_len-count.ensures
    c.loop-k-test.true in
    let first = c.in_ok-put_comma.ensures in
    let second = rw (ap text_there here.1) at c.in_ok-put_element.ensures in
    gone_on g.K.Sink.faults g.K.Sink.put c.args.sink.now c.put_comma.new.sink c.put_element.new.sink
    c.args.pieces.now
    c.put_comma.new.pieces c.put_element.new.pieces (value_text here.0) _ _ (text_there part)
    (gone_on g.K.Sink.faults g.K.Sink.put c.args.sink.now c.loop-k.sink c.put_comma.new.sink
    c.args.pieces.now
    c.loop-k.pieces c.put_comma.new.pieces (comma k) _ _ (text_there part)
    c.loop-k.invariant
    (elements_from part k here.0 here.1) first.faults first.passed)
    refl second.faults second.passed

pub put_list-returns : goal.put_list-returns
put_list-returns g t c =
    let part = part_at c.args.item.now c.args.part.spot c.args.part.index in
    let end : c.loop-k.k ≡ c.list_len-count.result = omega arith in
    let long : list_length part ≡ Some c.loop-k.k = c.list_len-count.ensures
    ∙ ap (λ (n : ℕ). Some n) (sym end) in
    ended g.K.Sink.faults g.K.Sink.put c.args.sink.now c.loop-k.sink c.put-2.new.sink
    c.args.pieces.now
    c.loop-k.pieces c.put-2.new.self (codes "]") (text_there part) c.put-2.result
    (rw (elements_ended part c.loop-k.k long) at c.loop-k.invariant) c.put-2.ensures

pub put_record-loop-index-init : goal.put_record-loop-index-init
put_record-loop-index-init g t c =
    let held = c.args.item.now in
    let whole = value_at held c.args.spot in
    let r = record_read held c.args.spot c.fields_of-field-items.ensures.laid c.requires in
    let first = c.in_ok-put.ensures in
    begun g.K.Sink.faults g.K.Sink.put c.args.sink.now c.put.new.sink c.args.pieces.now
    c.put.new.self (codes "{") _
    (value_text whole) first.faults first.passed (record_text whole r.value)

pub put_record-overflow_cast-part : goal.put_record-overflow_cast-part
put_record-overflow_cast-part g t c =
    let few = c.fields_of-field-items.ensures.few in omega (arith, few, c.loop-index-test.true)

pub put_record-put_field-requires : goal.put_record-put_field-requires
put_record-put_field-requires g t c κs within =
    let items = c.fields_of-field-items in
    let there = field_read c.args.item.now.layout c.args.spot.type_number c.loop-index.index
    items.result.now
    c.field-item.result items.ensures.fields c.loop-index-test.true c.field-item.is in
    (omega arith, (within, (c.requires, there)))

pub put_record-returns-in_err-put_field : goal.put_record-returns-in_err-put_field
put_record-returns-in_err-put_field g t c =
    let held = c.args.item.now in
    let whole = value_at held c.args.spot in
    let k = c.loop-index.index in
    let field = c.field-item.result in
    let items = c.fields_of-field-items in
    let there = field_read held.layout c.args.spot.type_number k items.result.now field
    items.ensures.fields
    c.loop-index-test.true c.field-item.is in
    let r = part_read held c.args.spot k field items.ensures.laid c.requires there in
    broken g.K.Sink.faults g.K.Sink.put c.args.sink.now c.loop-index.sink c.put_field.new.sink
    c.args.pieces.now
    c.loop-index.pieces c.put_field.new.pieces (named_text k field.name r.value) _ _
    (value_text whole) _
    c.from_residual-in_err-put_field.result c.loop-index.invariant
    (fields_from whole k field.name r.value r.named r.part)
    refl c.from_residual-in_err-put_field.ensures.0
    (rw (ap text_there r.part) at c.in_err-put_field.ensures)

pub put_record-loop-index-preserved : goal.put_record-loop-index-preserved
put_record-loop-index-preserved g t c =
    let held = c.args.item.now in
    let whole = value_at held c.args.spot in
    let k = c.loop-index.index in
    let field = c.field-item.result in
    let items = c.fields_of-field-items in
    let there = field_read held.layout c.args.spot.type_number k items.result.now field
    items.ensures.fields
    c.loop-index-test.true c.field-item.is in
    let r = part_read held c.args.spot k field items.ensures.laid c.requires there in
    let one = rw (ap text_there r.part) at c.in_ok-put_field.ensures in
    gone_on g.K.Sink.faults g.K.Sink.put c.args.sink.now c.loop-index.sink c.put_field.new.sink
    c.args.pieces.now
    c.loop-index.pieces c.put_field.new.pieces (named_text k field.name r.value) _ _
    (value_text whole)
    c.loop-index.invariant (fields_from whole k field.name r.value r.named r.part) one.faults
    one.passed

pub put_record-returns : goal.put_record-returns
put_record-returns g t c =
    let held = c.args.item.now in
    let whole = value_at held c.args.spot in
    let k = c.loop-index.index in
    let items = c.fields_of-field-items in
    let r = record_read held c.args.spot items.ensures.laid c.requires in
    let end : k ≡ length items.result.now = omega
    (arith, c.loop-index-test.false, c.loop-index.auto.index-end) in
    let all = r.count ∙ ap length (sym items.ensures.fields) ∙ sym end in
    ended g.K.Sink.faults g.K.Sink.put c.args.sink.now c.loop-index.sink c.put-2.new.sink
    c.args.pieces.now
    c.loop-index.pieces c.put-2.new.self (codes "}") (value_text whole) c.put-2.result
    (rw (fields_ended (entries_in whole) k all) at c.loop-index.invariant) c.put-2.ensures
