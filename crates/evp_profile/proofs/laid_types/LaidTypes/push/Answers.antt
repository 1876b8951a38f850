use Rattle.std.proofs.Common.{◌≡◌, ℕ, ◌<◌, ◌≤◌, length, ap, sym, subst, ◌∙◌, arith}
use Rattle.evp_format.specs.SoFar.{MayFollow}
use Rattle.evp_format.specs.Tree.{trees}
use Rattle.evp_profile.specs.Alignment.{fields_alignment}
use Rattle.evp_profile.specs.LaidSoFar.{LaidSoFar}
use Rattle.evp_profile.specs.Profile.{pointer_size}
use Rattle.evp_profile.proofs.TypesPushed.{aligned_on}
use Rattle.evp_profile.proofs.laid_types.LaidTypes.push.Goals as goal

pub push-requires-clause-follows : goal.push-requires-clause-follows
push-requires-clause-follows c =
    let inside = c.self.inside in
    let type = c.args.record_type in
    subst (λ (n : ℕ). MayFollow n inside.types.types type) (sym c.self.invariant.has_pointer)
    (subst (λ (s : LaidSoFar). MayFollow (pointer_size s.profile) s.types type) (sym c.self.view_is) c.requires.follows)

pub invariant_of-self-2 : goal.invariant_of-self-2
invariant_of-self-2 c =
    let inside = c.self.inside in
    let types = inside.types.types in
    let type = c.args.record_type in
    let room : length types < 64 = subst (λ (s : LaidSoFar). length s.types < 64) (sym c.self.view_is) c.requires.room in
    let long : 64 ≤ length inside.alignments = omega arith in
    let last : c.from-number.result ≡ length types = c.from-number.ensures ∙ c.number.ensures.value in
    let own : c.fields_alignment-alignment.result ≡ fields_alignment inside.profile (trees types) type.fields =
    c.fields_alignment-alignment.ensures.value
    ∙ ap (λ (s : LaidSoFar). fields_alignment s.profile (trees s.types) c.as_slice.result.now) (sym c.self.view_is)
    ∙ ap (fields_alignment inside.profile (trees types)) c.as_slice.ensures in
    aligned_on inside.profile inside.types c.push.new.self type inside.alignments c.from-number.result c.fields_alignment-alignment.result
    c.self.invariant
    c.in_ok-push.ensures.pushed c.in_ok-push.ensures.laid room long last own
