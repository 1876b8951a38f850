use Rattle.std.proofs.Common.{◌≡◌, ◌<◌, Some, length, get_or, if◌then◌else◌, is_err, refl, sym, ap, subst, ◌∙◌}
use Rattle.std.proofs.lemmas.Option.{slice_get_read}
use Rattle.std.specs.Arc.{arc_value}
use Rattle.std.specs.List.{slice_get}
use Rattle.evp_stone.specs.Acted.{Learns}
use Rattle.evp_stone.specs.JobShape.{JobShape}
use Rattle.evp_stone.specs.Parts.{job_of}
use Rattle.evp_stone.proofs.ActedOn.{learned}
use Rattle.evp_stone.proofs.acting.perform.Goals as goal

pub returns-clause-learns : goal.returns-clause-learns
returns-clause-learns c =
    let parts = c.parts-parts.result.now in
    let its = c.index-its.result.now in
    let owned = arc_value c.args.owned.now in
    let cells = c.args.shared.now.cache.now in
    let spare = if is_err c.act.result then 1 else 0 in
    let same = c.parts-parts.ensures.value in
    let below : c.args.stone < length parts.stones.items =
    subst (λ (job : JobShape). c.args.stone < length job.stones) (sym same) c.requires.stone in
    let there : slice_get parts.stones.items c.args.stone ≡ Some its =
    slice_get_read parts.stones.items (length parts.stones.items) c.args.stone its refl below
    (c.index-its.ensures ∙ ap (λ n. get_or parts.stones.items n its) c.from.ensures) in
    subst (λ (job : JobShape). Learns job cells c.args.stone owned spare c.args.learnt.now.pass c.act.new.pass c.args.learnt.now.builds
    c.act.new.builds) same
    (learned (job_of parts) c.args.stone its owned cells spare c.args.learnt.now.pass c.act.new.pass c.args.learnt.now.builds
    c.act.new.builds there c.as_slice-2.result.now c.as_slice-2.ensures.value c.act.ensures.kept c.act.ensures.asked c.act.ensures.builds)
