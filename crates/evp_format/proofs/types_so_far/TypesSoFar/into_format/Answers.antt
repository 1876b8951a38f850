use Rattle.std.proofs.Common.{◌≤◌, length, subst, sym}
use Rattle.evp_format.specs.Layout.{layout_with}
use Rattle.evp_format.specs.SoFar.{SoFar}
use Rattle.evp_format.specs.WellLaid.{IsWellLaid}
use Rattle.evp_format.proofs.KeptTypes.{kept_well_laid, made_holds}
use Rattle.evp_format.proofs.types_so_far.TypesSoFar.into_format.Goals as goal

pub new-requires : goal.new-requires
new-requires c =
    let inside = c.self.inside in
    kept_well_laid c.args.order inside.pointer inside.types.items inside.depths inside.fields c.self.invariant
    (subst (λ (s : SoFar). 1 ≤ length s.types) (sym c.self.view_is) c.requires)

pub returns-clause-laid : goal.returns-clause-laid
returns-clause-laid c =
    let inside = c.self.inside in
    let laid = kept_well_laid c.args.order inside.pointer inside.types.items inside.depths inside.fields c.self.invariant
    (subst (λ (s : SoFar). 1 ≤ length s.types) (sym c.self.view_is) c.requires) in
    made_holds IsWellLaid c.new.result (layout_with c.args.order inside.pointer inside.types.items) c.new.ensures laid
