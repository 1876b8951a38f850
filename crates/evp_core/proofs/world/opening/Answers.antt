use Rattle.std.proofs.Common.{sym, subst, ◌+◌}
use Rattle.std.specs.Prelude.{List}
use Rattle.evp_stone.specs.Actor.{ActorShape}
use Rattle.evp_core.specs.Held.{AreOpening}
use Rattle.evp_core.proofs.Openings.{opens_more}
use Rattle.evp_core.proofs.world.opening.Goals as goal

pub loop-number-preserved : goal.loop-number-preserved
loop-number-preserved c =
    subst (λ (l : List ActorShape). AreOpening c.args.job.now c.args.cache.now (c.loop-number.number + 1) l)
    (sym c.in_ok-push.ensures.items)
    (opens_more c.args.job.now c.args.cache.now c.loop-number.number c.loop-number.actors.items c.in_ok-new.field-0 c.loop-number.invariant
    (record { opens = c.in_ok-new.ensures.opens; state = c.in_ok-new.ensures.state }))
