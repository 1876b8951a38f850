use Rattle.std.proofs.Common.{◌≡◌, ℕ, ◌<◌, ◌^◌, List, length, ap, sym, ◌∙◌, subst, refl, arith}
use Rattle.std.proofs.lemmas.Option.{slice_get_within}
use Rattle.std.proofs.lemmas.Result.{err_from_is_err_and}
use Rattle.std.specs.Arc.{arc_value}
use Rattle.evp_action.specs.MadeRecord.{record_in}
use Rattle.evp_action.specs.Settings.{AreSet, StopsBy}
use Rattle.evp_action.specs.Storing.{IsPacked}
use Rattle.evp_action.proofs.Conversions.{lent_by, value_is}
use Rattle.evp_action.proofs.PackedRecords.{packed_short}
use Rattle.evp_action.proofs.Transforms.{can_set, packed_at, laid_in, set_sent, set_stopped, in_buffer}
use Rattle.evp_format.specs.Datum.{Datum}
use Rattle.evp_record.specs.Owned.{owned_of}
use Rattle.evp_action.proofs.transforming.set_own.Goals as goal

pub format_of-receiver-requires : goal.format_of-receiver-requires
format_of-receiver-requires c = let is = c.requires.packed.1 in slice_get_within c.args.formats.now c.args.into is.layout is.there

pub set_fields-requires : goal.set_fields-requires
set_fields-requires c =
    let is = c.requires.packed.1 in
    let receiver = c.format_of-receiver.result.now in
    record {
      settings = can_set c.args.formats.now c.requires.settings.0 (record_in c.args.item.now).format c.args.into c.checked-seen.result.layout
          receiver c.args.set.now c.requires.settings.1 c.checked-seen.ensures.format c.format_of-receiver.ensures;
      few = c.requires.settings.1.few;
      packed = (
        c.requires.packed.0,
        subst (IsPacked receiver c.requires.packed.0) (sym c.deref_mut.ensures.value)
            (packed_at c.args.formats.now c.args.into receiver c.requires.packed.0 c.args.bytes.items c.format_of-receiver.ensures is),
      );
    }

pub returns-in_err-set_fields : goal.returns-in_err-set_fields
returns-in_err-set_fields c =
    let p = err_from_is_err_and c.from_residual.result c.from_residual.ensures.1 in
    let formats = c.args.formats.now in
    let owned = record_in c.args.item.now in
    let receiver = c.format_of-receiver.result.now in
    let cause = c.in_err-set_fields.field-0.0 in
    rw (p.1, p.2) (λ value fields has is.
    let lent = lent_by formats owned owned c.checked-seen.result refl c.checked-seen.ensures.format c.checked-seen.ensures.bytes in
    let packed = subst (IsPacked receiver fields) (sym c.deref_mut.ensures.value)
    (packed_at formats c.args.into receiver fields c.args.bytes.items c.format_of-receiver.ensures is) in
    set_stopped formats c.args.into receiver c.args.set.now value fields cause c.format_of-receiver.ensures
    (subst (λ (v : Datum). StopsBy receiver 0 c.args.set.now v fields cause)
    (value_is formats owned c.checked-seen.result value lent has)
    (c.in_err-set_fields.ensures.cause fields packed)))

pub new-requires : goal.new-requires
new-requires c =
    let receiver = c.format_of-receiver.result.now in
    let fields = c.requires.packed.0 in
    let new = c.set_fields.new.bytes in
    let packed = subst (IsPacked receiver fields) (sym c.deref_mut.ensures.value)
    (packed_at c.args.formats.now c.args.into receiver fields c.args.bytes.items c.format_of-receiver.ensures c.requires.packed.1) in
    let are = c.in_ok-set_fields.ensures.set fields packed in
    let laid = laid_in c.args.formats.now c.args.into receiver fields c.args.bytes.items c.format_of-receiver.ensures c.requires.packed.1 in
    let long : length new ≡ c.args.bytes.len = omega (arith, c.set_fields.auto.bytes, c.deref_mut.ensures.len) in
    subst (λ (bytes : List ℕ). length bytes < 2 ^ 32) (sym (in_buffer c.args.bytes.len c.args.bytes.items new long))
    (packed_short receiver are.fields new laid are.packed)

pub returns : goal.returns
returns c = λ value fields has is.
    let formats = c.args.formats.now in
    let owned = record_in c.args.item.now in
    let receiver = c.format_of-receiver.result.now in
    let new = c.set_fields.new.bytes in
    let lent = lent_by formats owned owned c.checked-seen.result refl c.checked-seen.ensures.format c.checked-seen.ensures.bytes in
    let packed = subst (IsPacked receiver fields) (sym c.deref_mut.ensures.value)
    (packed_at formats c.args.into receiver fields c.args.bytes.items c.format_of-receiver.ensures is) in
    let are = subst (λ (v : Datum). AreSet receiver 0 c.args.set.now v fields new)
    (value_is formats owned c.checked-seen.result value lent has)
    (c.in_ok-set_fields.ensures.set fields packed) in
    let long : length new ≡ c.args.bytes.len = omega (arith, c.set_fields.auto.bytes, c.deref_mut.ensures.len) in
    set_sent formats c.args.into receiver c.args.set.now value fields new (arc_value c.in_ok-new.field-0)
    c.format_of-receiver.ensures
    (laid_in formats c.args.into receiver fields c.args.bytes.items c.format_of-receiver.ensures is) are
    (c.in_ok-new.ensures.ok ∙ c.new.ensures ∙ ap (owned_of c.args.into) (in_buffer c.args.bytes.len c.args.bytes.items new long))
