use Rattle.std.proofs.Common.{ℕ, [], ◌∷◌, cond, Err, sym, subst, slice_get}
use Rattle.std.proofs.lemmas.Result.{err_from_is_err_and}
use Rattle.std.specs.Arc.{arc_value}
use Rattle.evp_action.specs.declared.acted.Acted.{Acted}
use Rattle.evp_action.specs.Acting.{transforms}
use Rattle.evp_action.specs.Agreement.{AreSettings}
use Rattle.evp_action.specs.Asking.{converts}
use Rattle.evp_action.specs.Converted.{spare}
use Rattle.evp_action.specs.MadeRecord.{record_in}
use Rattle.evp_action.specs.PackedRecord.{bytes_in}
use Rattle.evp_action.proofs.Works.{valued, can_ask, into_value, into_known, refused_at, by_one}
use Rattle.evp_action.proofs.Transforms.{asks_two, keeps_both, second_refused, behind_both, builds_both, builds_done}
use Rattle.evp_action.proofs.transforming.transform.Goals as goal

pub returns-in_err-made : goal.returns-in_err-made
returns-in_err-made c =
    let conv = c.args.converter.now in
    let formats = conv.formats.now in
    let owned = arc_value c.args.item.now in
    let p = err_from_is_err_and c.from_residual.result c.from_residual.ensures.1 in
    rw (p.1, p.2)
    (by_one conv.cache.now formats owned (transforms formats conv.limit c.args.format c.args.into c.args.set.now owned.format)
    c.args.format
    (λ value. cond (converts (slice_get formats owned.format) (slice_get formats c.args.format) conv.limit value)
    ((c.args.format, c.args.into) ∷ []) [])
    c.args.pass.now c.convert.new.known
    c.args.builds.now c.convert.new.builds (Err c.in_err-made.field-0.0) c.in_err-made.ensures.kept c.in_err-made.ensures.asked
    c.in_err-made.ensures.builds
    (λ value has. refused_at formats owned.format c.args.format conv.limit value _ c.in_err-made.field-0.0
    (c.in_err-made.ensures.cause value has)))

pub packed-requires-clause-ask : goal.packed-requires-clause-ask
packed-requires-clause-ask c =
    let conv = c.args.converter.now in
    let formats = conv.formats.now in
    let v = valued formats (arc_value c.args.item.now) c.requires.item in
    let made = record_in c.in_ok-made.made in
    let is = c.in_ok-made.ensures.made v.value v.has in
    let has = into_known formats made is.value_made (into_value formats _ c.args.format conv.limit v.value made is) in
    can_ask conv.cache.now formats c.convert.new.known made c.args.into c.requires.cache c.in_ok-made.ensures.kept.right has
    c.requires.settings.second_there.below

pub packed-requires-clause-has : goal.packed-requires-clause-has
packed-requires-clause-has c =
    let conv = c.args.converter.now in
    let formats = conv.formats.now in
    let v = valued formats (arc_value c.args.item.now) c.requires.item in
    let made = record_in c.in_ok-made.made in
    let is = c.in_ok-made.ensures.made v.value v.has in
    into_known formats made is.value_made (into_value formats _ c.args.format conv.limit v.value made is)

pub returns-in_err-packed : goal.returns-in_err-packed
returns-in_err-packed c =
    let conv = c.args.converter.now in
    let formats = conv.formats.now in
    let owned = arc_value c.args.item.now in
    let made = record_in c.in_ok-made.made in
    let cause = c.in_err-packed.field-0.0 in
    let known = c.packed.new.known in
    let p = err_from_is_err_and c.from_residual-in_err-packed.result c.from_residual-in_err-packed.ensures.1 in
    rw (p.1, p.2) (record {
      answers = λ value has. second_refused formats conv.limit c.args.format c.args.into owned.format c.args.set.now value made cause
          (c.in_ok-made.ensures.made value has) c.in_err-packed.ensures.cause;
      keeps = keeps_both conv.cache.now formats c.args.pass.now c.convert.new.known known c.in_ok-made.ensures.kept
          c.in_err-packed.ensures.kept;
      asks = λ value has. asks_two formats conv.limit c.args.format c.args.into owned.format value made c.args.pass.now
          c.convert.new.known known
          (c.in_ok-made.ensures.made value has) c.in_ok-made.ensures.asked c.in_err-packed.ensures.asked;
      builds = builds_both c.args.pass.now c.convert.new.known known c.args.builds.now c.convert.new.builds c.packed.new.builds
          (spare {A = Acted} (Err cause))
          c.in_ok-made.ensures.builds c.in_err-packed.ensures.builds;
    })

pub with_fields_set-requires-clause-settings : goal.with_fields_set-requires-clause-settings
with_fields_set-requires-clause-settings c =
    let conv = c.args.converter.now in
    let formats = conv.formats.now in
    let v = valued formats (arc_value c.args.item.now) c.requires.item in
    let is = c.in_ok-made.ensures.made v.value v.has in (
      conv.cache.now.declared,
      subst (λ (n : ℕ). AreSettings formats conv.cache.now.declared n c.args.into c.args.set.now)
          (sym is.numbered) c.requires.settings,
    )

pub with_fields_set-requires-clause-item : goal.with_fields_set-requires-clause-item
with_fields_set-requires-clause-item c =
    let conv = c.args.converter.now in
    let formats = conv.formats.now in
    let v = valued formats (arc_value c.args.item.now) c.requires.item in
    let made = record_in c.in_ok-made.made in
    let is = c.in_ok-made.ensures.made v.value v.has in
    into_known formats made is.value_made (into_value formats _ c.args.format conv.limit v.value made is)

pub with_fields_set-requires-clause-packed : goal.with_fields_set-requires-clause-packed
with_fields_set-requires-clause-packed c =
    let conv = c.args.converter.now in
    let formats = conv.formats.now in
    let v = valued formats (arc_value c.args.item.now) c.requires.item in
    let made = record_in c.in_ok-made.made in
    let is = c.in_ok-made.ensures.made v.value v.has in
    let has = into_value formats _ c.args.format conv.limit v.value made is in
    let second = c.in_ok-packed.ensures.made is.value_made has in
    (second.fields, second.packed)

pub returns : goal.returns
returns c =
    let conv = c.args.converter.now in
    let formats = conv.formats.now in
    let owned = arc_value c.args.item.now in
    let made = record_in c.in_ok-made.made in
    let known = c.packed.new.known in
    let bytes = bytes_in c.packed.new.room c.in_ok-packed.packed in
    let answer = c.with_fields_set.result in
    record {
      answers = λ value has. behind_both formats conv.limit c.args.format c.args.into owned.format c.args.set.now value made bytes answer
          (c.in_ok-made.ensures.made value has) c.in_ok-packed.ensures.made c.with_fields_set.ensures;
      keeps = keeps_both conv.cache.now formats c.args.pass.now c.convert.new.known known c.in_ok-made.ensures.kept
          c.in_ok-packed.ensures.kept;
      asks = λ value has. asks_two formats conv.limit c.args.format c.args.into owned.format value made c.args.pass.now
          c.convert.new.known known
          (c.in_ok-made.ensures.made value has) c.in_ok-made.ensures.asked c.in_ok-packed.ensures.asked;
      builds = builds_done c.args.pass.now c.convert.new.known known c.args.builds.now c.convert.new.builds c.packed.new.builds
          (spare answer)
          c.in_ok-made.ensures.builds c.in_ok-packed.ensures.builds;
    }
