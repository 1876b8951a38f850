use Rattle.std.proofs.Common.{[], ◌∷◌, sym, ap, ◌∙◌}
use Rattle.evp_profile.specs.Declarations.{DeclaredType}
use Rattle.evp_profile.specs.LayingOut.{by_profile}
use Rattle.evp_gen.proofs.SentLayouts.{laid_out}
use Rattle.evp_gen.proofs.senders.sent_format.Goals as goal

pub returns-in-Ok : goal.returns-in-Ok
returns-in-Ok c =
    let profile = c.args.profile in
    let said = ap (λ (type : DeclaredType). by_profile profile (type ∷ []))
    c.in_ok-sent_type.ensures.value in
    let same = sym c.in-Ok.ensures.value ∙ said ∙ laid_out profile in
    cc
