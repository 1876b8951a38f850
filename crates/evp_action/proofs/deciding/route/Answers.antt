use Rattle.std.proofs.Common.{ℕ, [], Err, None, ap, ◌∙◌, slice_get}
use Rattle.std.proofs.lemmas.Result.{err_from_is_err_and}
use Rattle.std.specs.Arc.{arc_value}
use Rattle.evp_action.specs.Acting.{routes, then_number, routed}
use Rattle.evp_action.specs.Converted.{spare}
use Rattle.evp_action.specs.MadeRecord.{record_in}
use Rattle.evp_action.proofs.Works.{valued, into_value, into_known, refused_at, done_with, by_one, builds_still}
use Rattle.evp_eval.specs.Value.{value as value_over}
use Rattle.evp_format.specs.Datum.{Datum}
use Rattle.evp_action.proofs.deciding.route.Goals as goal

pub returns-in_err-made : goal.returns-in_err-made
returns-in_err-made c =
    let conv = c.args.converter.now in
    let owned = arc_value c.args.item.now in
    let p = err_from_is_err_and c.from_residual.result c.from_residual.ensures.1 in
    rw (p.1, p.2)
    (by_one conv.cache.now conv.formats.now owned (routes conv.formats.now conv.limit c.args.format c.args.choose.now c.args.targets
    owned.format) c.args.format (λ value. []) c.args.pass.now c.convert.new.known
    c.args.builds.now c.convert.new.builds (Err c.in_err-made.field-0.0) c.in_err-made.ensures.kept c.in_err-made.ensures.asked
    c.in_err-made.ensures.builds
    (λ value has. refused_at conv.formats.now owned.format c.args.format conv.limit value _ c.in_err-made.field-0.0
    (c.in_err-made.ensures.cause value has)))

pub routed-requires-clause-bound : goal.routed-requires-clause-bound
routed-requires-clause-bound c =
    let formats = c.args.converter.now.formats.now in
    let v = valued formats (arc_value c.args.item.now) c.requires.has in
    ap (slice_get formats) (c.in_ok-made.ensures.made v.value v.has).numbered ∙ c.requires.bound

pub routed-requires-clause-has : goal.routed-requires-clause-has
routed-requires-clause-has c =
    let formats = c.args.converter.now.formats.now in
    let v = valued formats (arc_value c.args.item.now) c.requires.has in
    let is = c.in_ok-made.ensures.made v.value v.has in
    into_known formats (record_in c.in_ok-made.made) is.value_made
    (into_value formats _ c.args.format c.args.converter.now.limit v.value (record_in c.in_ok-made.made) is)

pub returns : goal.returns
returns c =
    let conv = c.args.converter.now in
    let owned = arc_value c.args.item.now in
    let made = record_in c.in_ok-made.made in
    by_one conv.cache.now conv.formats.now owned (routes conv.formats.now conv.limit c.args.format c.args.choose.now c.args.targets
    owned.format) c.args.format (λ value. []) c.args.pass.now c.convert.new.known
    c.args.builds.now c.convert.new.builds c.routed.result c.in_ok-made.ensures.kept c.in_ok-made.ensures.asked
    (builds_still c.args.pass.now c.convert.new.known c.args.builds.now c.convert.new.builds (spare c.routed.result) c.in_ok-made.ensures.builds)
    (λ value has. done_with conv.formats.now owned.format c.args.format conv.limit value made
    (λ (n : ℕ) (m : Datum). then_number None (value_over c.args.choose.now.tree m) (routed c.args.targets n m)) c.routed.result
    (c.in_ok-made.ensures.made value has) c.routed.ensures)
