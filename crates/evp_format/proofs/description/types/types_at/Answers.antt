use Rattle.std.proofs.Common.{◌≡◌, ℕ, ◌∷◌, [], length, Ok, ap, sym, ◌∙◌, arith, length-append}
use Rattle.std.proofs.lemmas.Result.{err_from_is_err_and}
use Rattle.evp_format.specs.Reading.{type_at, types_at}
use Rattle.evp_format.specs.SoFar.{SoFar}
use Rattle.evp_format.specs.WellLaid.{all_fields}
use Rattle.evp_format.proofs.WellLaidFormats.{type_facts, all_fields-push}
use Rattle.evp_format.proofs.CountedReads.{types_go_on, types_stop, types_done}
use Rattle.evp_format.proofs.description.types.types_at.Goals as goal

pub returns-in_err-record_type-clause-value : goal.returns-in_err-record_type-clause-value
returns-in_err-record_type-clause-value c =
    let types = c.loop.types.types in
    let p = err_from_is_err_and c.from_residual.result c.from_residual.ensures.1 in
    rw (p.1, p.2) (λ memory. types_stop c.args.count c.loop.counter c.args.stated c.args.pointer types c.args.bytes.now c.loop.next
    c.in_err-record_type.field-0.0
    (types_at c.args.count c.args.stated c.args.pointer [] c.args.bytes.now c.args.at) c.loop-test.true
    (ap (λ (pointer : ℕ). type_at c.args.stated pointer types c.args.bytes.now c.loop.next) (sym c.loop.invariant.pointer)
    ∙ c.in_err-record_type.ensures.value memory) c.loop.invariant.rest)

pub push-requires-clause-follows : goal.push-requires-clause-follows
push-requires-clause-follows c =
    type_facts c.args.stated c.loop.types.pointer c.loop.types.types c.args.bytes.now c.loop.next
    (c.in_ok-record_type.record_type, c.in_ok-record_type.behind) c.in_ok-record_type.ensures.value

pub loop-preserved : goal.loop-preserved
loop-preserved c =
    let inv = c.loop.invariant in
    let types = c.loop.types.types in
    let type = c.in_ok-record_type.record_type in
    let behind = c.in_ok-record_type.behind in
    let read : type_at c.args.stated c.args.pointer types c.args.bytes.now c.loop.next ≡ Ok (type, behind) =
    ap (λ (pointer : ℕ). type_at c.args.stated pointer types c.args.bytes.now c.loop.next) (sym inv.pointer)
    ∙ c.in_ok-record_type.ensures.value in
    let pushed = c.in_ok-push.ensures.pushed in
    let types_are = ap (λ (s : SoFar). s.types) pushed in
    let long = ap length types_are in
    let grown = length-append types (type ∷ []) in
    let all = ap all_fields types_are in
    let all_grown = all_fields-push types type in
    let number = inv.number in
    let fields = c.in_ok-record_type.ensures.fields in
    let end = c.in_ok-record_type.ensures.behind in
    let near = inv.near in
    record {
      rest = rw types_are (types_go_on c.args.count c.loop.counter c.args.stated c.args.pointer types c.args.bytes.now c.loop.next type
          behind
          (types_at c.args.count c.args.stated c.args.pointer [] c.args.bytes.now c.args.at) c.loop-test.true read inv.rest);
      pointer = ap (λ (s : SoFar). s.pointer) pushed ∙ inv.pointer;
      number = omega (arith, long, grown, number);
      few = omega (arith, all, all_grown, fields);
      near = omega (arith, near, end, all, all_grown);
    }

pub returns-clause-value : goal.returns-clause-value
returns-clause-value c =
    types_done c.args.count c.loop.counter c.args.stated c.args.pointer c.loop.types.types c.args.bytes.now c.loop.next
    (types_at c.args.count c.args.stated c.args.pointer [] c.args.bytes.now c.args.at) c.loop-test.false c.loop.invariant.rest
