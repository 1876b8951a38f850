use Rattle.std.proofs.Common.{[], Ok, Err, sym, subst}
use Rattle.std.proofs.lemmas.Result.{err_from_is_err_and}
use Rattle.std.specs.Arc.{arc_value}
use Rattle.evp_action.specs.Acting.{receives}
use Rattle.evp_action.specs.declared.acted.Acted.TheVariants.{Arrived}
use Rattle.evp_action.specs.Converted.{IsInto}
use Rattle.evp_action.specs.Outcome.{arrived}
use Rattle.evp_action.proofs.Works.{refused_at, comes, by_one}
use Rattle.evp_action.proofs.deciding.receive.Goals as goal

pub returns-in_err-made : goal.returns-in_err-made
returns-in_err-made c =
    let conv = c.args.converter.now in
    let owned = arc_value c.args.item.now in
    let p = err_from_is_err_and c.from_residual.result c.from_residual.ensures.1 in
    rw (p.1, p.2)
    (by_one conv.cache.now conv.formats.now owned (receives conv.formats.now conv.limit c.args.format owned.format) c.args.format
    (λ value. []) c.args.pass.now c.convert.new.known
    c.args.builds.now c.convert.new.builds (Err c.in_err-made.field-0.0) c.in_err-made.ensures.kept c.in_err-made.ensures.asked
    c.in_err-made.ensures.builds
    (λ value has. refused_at conv.formats.now owned.format c.args.format conv.limit value _ c.in_err-made.field-0.0
    (c.in_err-made.ensures.cause value has)))

pub returns : goal.returns
returns c =
    let conv = c.args.converter.now in
    let owned = arc_value c.args.item.now in
    let shared = c.in_ok-into_arc.field-0 in
    by_one conv.cache.now conv.formats.now owned (receives conv.formats.now conv.limit c.args.format owned.format) c.args.format
    (λ value. []) c.args.pass.now c.convert.new.known
    c.args.builds.now c.convert.new.builds (Ok (Arrived shared)) c.in_ok-made.ensures.kept c.in_ok-made.ensures.asked
    c.in_ok-made.ensures.builds
    (λ value has. comes conv.formats.now owned.format c.args.format conv.limit value (arc_value shared) arrived
    (subst (IsInto conv.formats.now owned.format c.args.format conv.limit value) (sym c.in_ok-into_arc.ensures)
    (c.in_ok-made.ensures.made value has)))
