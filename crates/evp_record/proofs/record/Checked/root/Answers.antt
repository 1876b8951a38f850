use Rattle.std.proofs.Common.{◌∙◌, ap, sym, subst}
use Rattle.evp_format.specs.Layout.{Layout}
use Rattle.evp_format.specs.WellLaid.{IsWellLaid}
use Rattle.evp_record.specs.Record.{value_or_null}
use Rattle.evp_record.specs.Spots.{IsReached, value_at}
use Rattle.evp_record.specs.declared.spot.Spot.{Spot}
use Rattle.evp_record.proofs.Roots.{root_reached, viewed_root, spot_of_last}
use Rattle.evp_record.proofs.record.Checked.root.Goals as goal

pub returns-clause-reached : goal.returns-clause-reached
returns-clause-reached c =
    let held = c.args.self.now in
    let Laid : Layout → Type 0 = λ l. IsWellLaid l in
    let Reached : Spot → Type 0 = λ spot. IsReached held spot in
    let same = ap (λ (l : Layout). l.types) c.format.ensures.value in
    subst Reached (spot_of_last held.layout c.types.result.now c.format.result.now.types c.types.ensures.value same)
    (root_reached held (subst Laid c.format.ensures.value c.types.ensures.laid) c.format.ensures.kept.viewed)

pub returns-clause-value : goal.returns-clause-value
returns-clause-value c =
    let held = c.args.self.now in
    let same = ap (λ (l : Layout). l.types) c.format.ensures.value in
    ap (λ (spot : Spot). value_at held spot)
    (sym (spot_of_last held.layout c.types.result.now c.format.result.now.types c.types.ensures.value same))
    ∙ ap value_or_null (viewed_root held c.format.ensures.kept.viewed)

pub returns-clause-laid : goal.returns-clause-laid
returns-clause-laid c = subst IsWellLaid c.format.ensures.value c.types.ensures.laid
