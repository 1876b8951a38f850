use Rattle.std.proofs.Common.{◌≡◌, length, Ok, sym, ap, subst, ◌∙◌, arith}
use Rattle.std.proofs.lemmas.List.{length-map}
use Rattle.std.proofs.lemmas.Result.{err_from_is_err_and}
use Rattle.evp_format.specs.Layout.{Layout, layout_with}
use Rattle.evp_profile.specs.declared.profile.Profile.{Profile}
use Rattle.evp_profile.specs.CLayout.{IsCLayout}
use Rattle.evp_profile.specs.Declarations.{type_declared, types_declared}
use Rattle.evp_profile.specs.Profile.{byte_order, pointer_size}
use Rattle.evp_profile.proofs.Formats.{too_few, too_many, types_refused, types_laid}
use Rattle.evp_profile.proofs.LaidOut.{laid_types-as_in_c}
use Rattle.evp_profile.proofs.laying_out.lay_out.Goals as goal
use Rattle.evp_profile.proofs.laying_out.lay_out.Goals.{then-count-lt1-via-then-count-lt1}
use Rattle.evp_profile.proofs.laying_out.lay_out.Goals.{then-count-lt1-via-else-count-lt1+then-count-gt64}

pub returns-then-count-lt1-clause-value : goal.returns-then-count-lt1-clause-value
returns-then-count-lt1-clause-value c =
    let types = c.args.types.now in
    let same = length-map types type_declared in
    λ _. elim c.then-count-lt1.branch [
      | then-count-lt1-via-then-count-lt1 w ↦ too_few c.args.profile (types_declared types) (length types) same w.if-count-lt1.true
      | then-count-lt1-via-else-count-lt1+then-count-gt64 w ↦ too_many c.args.profile (types_declared types) (length types) same
          w.if-count-gt64.true
    ]

pub returns-in_err-laid-clause-value : goal.returns-in_err-laid-clause-value
returns-in_err-laid-clause-value c =
    let types = c.args.types.now in
    let same = length-map types type_declared in
    let p = err_from_is_err_and c.from_residual.result c.from_residual.ensures.1 in
    rw (p.1, p.2) (λ other. types_refused c.args.profile (types_declared types) c.in_err-laid.field-0.0 (omega (arith, same))
    (omega (arith, same)) (c.in_err-laid.ensures.value other))

pub returns-clause-value : goal.returns-clause-value
returns-clause-value c =
    let types = c.args.types.now in
    let same = length-map types type_declared in
    let laid = c.in_ok-laid.laid.types in
    let made : c.in_ok-format.format ≡ layout_with (byte_order c.args.profile) (pointer_size c.args.profile) laid =
    c.in_ok-format.ensures ∙ ap (λ (p : Profile). layout_with (byte_order p) (pointer_size p) laid) c.in_ok-laid.ensures.profile in
    types_laid c.args.profile (types_declared types) laid (omega (arith, same)) (omega (arith, same)) c.in_ok-laid.ensures.value
    ∙ ap (λ (layout : Layout). Ok layout) (sym made)

pub returns-clause-as_in_c : goal.returns-clause-as_in_c
returns-clause-as_in_c c =
    let laid = c.in_ok-laid.laid.types in
    let made : c.in_ok-format.format ≡ layout_with (byte_order c.args.profile) (pointer_size c.args.profile) laid =
    c.in_ok-format.ensures ∙ ap (λ (p : Profile). layout_with (byte_order p) (pointer_size p) laid) c.in_ok-laid.ensures.profile in
    subst (IsCLayout c.args.profile) (sym made) (laid_types-as_in_c c.args.profile (types_declared c.args.types.now) laid
    c.in_ok-laid.ensures.value)
