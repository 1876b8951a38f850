use Rattle.std.proofs.Common.{◌≡◌, ◌<◌, ◌≤◌, List, length, map, ap, sym, subst, ◌∙◌, arith}
use Rattle.evp_format.specs.declared.field.Field.{Field}
use Rattle.evp_format.specs.SoFar.{SoFar, AreLaid, MayFollow}
use Rattle.evp_format.specs.Tree.{trees, tree, resolved, branches_of}
use Rattle.evp_format.specs.WellLaid.{depth}
use Rattle.evp_format.proofs.KeptTypes.{kept_push}
use Rattle.evp_format.proofs.WellLaidFormats.{types_push}
use Rattle.evp_format.proofs.types_so_far.TypesSoFar.push.Goals as goal

pub invariant_of-self-2 : goal.invariant_of-self-2
invariant_of-self-2 c =
    let inside = c.self.inside in
    let types = inside.types.items in
    let type = c.args.record_type in
    let follows : MayFollow inside.pointer types type = subst (λ (s : SoFar). MayFollow s.pointer s.types type) (sym c.self.view_is)
    c.requires.follows in
    let room : length types < 64 = subst (λ (s : SoFar). length s.types < 64) (sym c.self.view_is) c.requires.room in
    let nested : c.depths.result.now ≡ map depth (trees types) = c.depths.ensures.nested
    ∙ ap (λ (s : SoFar). map depth (trees s.types)) (sym c.self.view_is) in
    let deep : c.depth_behind-depth.result ≡ depth (resolved (trees types) type) =
    c.depth_behind-depth.ensures.value (trees types) type.length nested
    ∙ ap (λ (fields : List Field). depth (tree type.length (branches_of (trees types) fields))) c.as_slice-fields.ensures in
    let long : 64 ≤ length inside.depths = omega arith in
    let last : c.len-number.result ≡ length types = grind arith in
    kept_push inside.pointer types c.push.new.self.items type inside.depths inside.fields c.len-number.result c.depth_behind-depth.result
    (length c.as_slice-fields.result.now)
    c.self.invariant follows room long c.in_ok-push.ensures.items last deep (ap length c.as_slice-fields.ensures)

pub returns-clause-laid : goal.returns-clause-laid
returns-clause-laid c =
    let inside = c.self.inside in
    let type = c.args.record_type in
    let follows : MayFollow inside.pointer inside.types.items type = subst (λ (s : SoFar). MayFollow s.pointer s.types type)
    (sym c.self.view_is) c.requires.follows in
    subst (AreLaid inside.pointer) (sym c.in_ok-push.ensures.items)
    (types_push inside.pointer inside.types.items type c.self.invariant.laid follows)
