use Rattle.std.proofs.Common.{◌≡◌, length, take, drop, ap, ◌∙◌, subst, refl, arith, rules}
use Rattle.std.proofs.lemmas.List.{length-take-le, take_at}
use Rattle.std.proofs.lemmas.Option.{slice_get_within}
use Rattle.std.proofs.lemmas.Result.{err_from_is_err_and}
use Rattle.std.specs.Arc.{arc_value}
use Rattle.evp_action.specs.MadeRecord.{record_in}
use Rattle.evp_action.specs.Settings.{AreSet, StopsBy}
use Rattle.evp_action.proofs.Conversions.{lent_by, value_is}
use Rattle.evp_action.proofs.Transforms.{can_set, packed_at, laid_in, set_sent, set_stopped}
use Rattle.evp_format.specs.Datum.{Datum}
use Rattle.evp_record.specs.Owned.{owned_of}
use Rattle.evp_action.proofs.transforming.set_in_room.Goals as goal

pub format_of-receiver-requires : goal.format_of-receiver-requires
format_of-receiver-requires c = let is = c.requires.packed.1 in slice_get_within c.args.formats.now c.args.into is.layout is.there

pub set_fields-requires : goal.set_fields-requires
set_fields-requires c =
    let is = c.requires.packed.1 in
    record {
      settings = can_set c.args.formats.now c.requires.settings.0 (record_in c.args.item.now).format c.args.into c.checked-seen.result.layout
          c.format_of-receiver.result.now
          c.args.set.now c.requires.settings.1 c.checked-seen.ensures.format c.format_of-receiver.ensures;
      few = c.requires.settings.1.few;
      packed = (
        c.requires.packed.0,
        (packed_at c.args.formats.now c.args.into c.format_of-receiver.result.now c.requires.packed.0 (take c.args.size c.args.room.now)
            c.format_of-receiver.ensures is),
      );
    }

pub returns-in_err-set_fields : goal.returns-in_err-set_fields
returns-in_err-set_fields c =
    let p = err_from_is_err_and c.from_residual.result c.from_residual.ensures.1 in
    let receiver = c.format_of-receiver.result.now in
    let cause = c.in_err-set_fields.field-0.0 in
    rw (p.1, p.2) (λ value fields has is.
    let lent = lent_by c.args.formats.now (record_in c.args.item.now) (record_in c.args.item.now) c.checked-seen.result refl c.checked-seen.ensures.format
    c.checked-seen.ensures.bytes in
    let packed = packed_at c.args.formats.now c.args.into receiver fields (take c.args.size c.args.room.now) c.format_of-receiver.ensures is in
    set_stopped c.args.formats.now c.args.into receiver c.args.set.now value fields cause c.format_of-receiver.ensures
    (subst (λ (v : Datum). StopsBy receiver 0 c.args.set.now v fields cause)
    (value_is c.args.formats.now (record_in c.args.item.now) c.checked-seen.result value lent has)
    (c.in_err-set_fields.ensures.cause fields packed)))

pub returns : goal.returns
returns c = λ value fields has is.
    let receiver = c.format_of-receiver.result.now in
    let new = c.set_fields.new.bytes in
    let size = c.args.size in
    let room = c.args.room.now in
    let all : length room ≡ 72 = search rules in
    let front = length-take-le size room (omega (arith, c.requires.within, all)) in
    let long : length new ≡ size = omega (arith, c.set_fields.auto.bytes, front) in
    let lent = lent_by c.args.formats.now (record_in c.args.item.now) (record_in c.args.item.now) c.checked-seen.result refl c.checked-seen.ensures.format
    c.checked-seen.ensures.bytes in
    let packed = packed_at c.args.formats.now c.args.into receiver fields (take c.args.size c.args.room.now) c.format_of-receiver.ensures is in
    let are = subst (λ (v : Datum). AreSet receiver 0 c.args.set.now v fields new)
    (value_is c.args.formats.now (record_in c.args.item.now) c.checked-seen.result value lent has)
    (c.in_ok-set_fields.ensures.set fields packed) in
    set_sent c.args.formats.now c.args.into receiver c.args.set.now value fields new (arc_value c.in_ok-new.field-0)
    c.format_of-receiver.ensures
    (laid_in c.args.formats.now c.args.into receiver fields (take c.args.size c.args.room.now) c.format_of-receiver.ensures is) are
    (c.in_ok-new.ensures.ok ∙ c.in_ok-owned.ensures ∙ c.new.ensures
    ∙ ap (owned_of c.args.into) (take_at new (drop size room) size long))
