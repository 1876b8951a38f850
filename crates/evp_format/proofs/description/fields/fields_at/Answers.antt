use Rattle.std.proofs.Common.{◌∷◌, [], length, List, ap, ◌∙◌, arith, length-append}
use Rattle.std.proofs.lemmas.Result.{err_from_is_err_and}
use Rattle.evp_format.specs.declared.draft.DraftField.{DraftField}
use Rattle.evp_format.specs.Reading.{field_at, fields_at}
use Rattle.evp_format.proofs.CountedReads.{fields_go_on, fields_stop, fields_done}
use Rattle.evp_format.proofs.description.fields.fields_at.Goals as goal

pub returns-in_err-field-clause-value : goal.returns-in_err-field-clause-value
returns-in_err-field-clause-value c =
    let head = c.args.head.now in
    let types = head.types.now in
    let p = err_from_is_err_and c.from_residual.result c.from_residual.ensures.1 in
    rw (p.1, p.2) (λ memory. fields_stop c.args.count c.loop.counter head.stated types.pointer types.types head.room c.loop.fields.items
    c.args.bytes.now c.loop.next c.in_err-field.field-0.0
    (fields_at c.args.count head.stated types.pointer types.types head.room [] c.args.bytes.now c.args.at) c.loop-test.true
    (c.in_err-field.ensures.value ∙ ap (λ (before : List DraftField). field_at head.stated types.pointer types.types head.room before
    c.args.bytes.now c.loop.next) c.deref.ensures.value) c.loop.invariant.rest)

pub loop-preserved : goal.loop-preserved
loop-preserved c =
    let head = c.args.head.now in
    let types = head.types.now in
    let pushed = c.in_ok-push.ensures.items in
    let long = ap length pushed in
    let grown = length-append c.loop.fields.items (c.in_ok-field.field ∷ []) in
    let number = c.loop.invariant.number in
    let near = c.loop.invariant.near in
    let behind = c.in_ok-field.ensures.behind in
    record {
      rest = rw pushed (fields_go_on c.args.count c.loop.counter head.stated types.pointer types.types head.room c.loop.fields.items
          c.args.bytes.now c.loop.next c.in_ok-field.field c.in_ok-field.behind
          (fields_at c.args.count head.stated types.pointer types.types head.room [] c.args.bytes.now c.args.at) c.loop-test.true
          (c.in_ok-field.ensures.value ∙ ap (λ (before : List DraftField). field_at head.stated types.pointer types.types head.room
          before c.args.bytes.now c.loop.next) c.deref.ensures.value) c.loop.invariant.rest);
      number = omega (arith, long, grown, number);
      near = omega (arith, near, behind);
    }

pub returns-clause-value : goal.returns-clause-value
returns-clause-value c =
    let head = c.args.head.now in
    let types = head.types.now in
    fields_done c.args.count c.loop.counter head.stated types.pointer types.types head.room c.loop.fields.items c.args.bytes.now c.loop.next
    (fields_at c.args.count head.stated types.pointer types.types head.room [] c.args.bytes.now c.args.at) c.loop-test.false
    c.loop.invariant.rest
