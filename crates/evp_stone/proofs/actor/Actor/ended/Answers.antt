use Rattle.std.proofs.Common.{◌≡◌, sym, ap, subst, ◌∙◌}
use Rattle.evp_stone.specs.Actor.{works, ActorShape, HasRole}
use Rattle.evp_stone.specs.Roles.{role_of}
use Rattle.evp_stone.specs.Seen.{seen}
use Rattle.evp_stone.proofs.actor.Actor.ended.Goals as goal

pub returns-in-Stone-clause-accounts : goal.returns-in-Stone-clause-accounts
returns-in-Stone-clause-accounts c = λ job cells taken given acted.
    let worker = c.in-Stone.worker in
    let role : c.args.self.now.role ≡ works (seen worker) worker.unended =
    ap (λ (a : ActorShape). a.role) (sym c.self.view_is) ∙ ap role_of c.in-Stone.is in
    c.ended.ensures.accounts job taken given (subst (HasRole job taken given) role acted.role).0
