use Rattle.std.proofs.Common.{◌≡◌, sym, ap, subst, ◌∙◌}
use Rattle.evp_stone.specs.Actor.{works, ActorShape, HasRole}
use Rattle.evp_stone.specs.Roles.{role_of, IsDone}
use Rattle.evp_stone.specs.Seen.{seen}
use Rattle.evp_stone.proofs.actor.Actor.account.Goals as goal

pub returns-clause-account : goal.returns-clause-account
returns-clause-account c = λ job cells taken given is acted done.
    let worker = c.in-Stone.worker in
    let role : c.args.self.role ≡ works (seen worker) worker.unended =
    ap (λ (a : ActorShape). a.role) (sym c.self.view_is) ∙ ap role_of c.in-Stone.is in
    c.account.ensures.account job taken given is (subst (HasRole job taken given) role acted.role).0 (subst (IsDone job) role done)
