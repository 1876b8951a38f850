use Rattle.std.proofs.Common.{ℕ, sym, subst}
use Rattle.evp_core.specs.Answers.{AnswersFor}
use Rattle.evp_core.specs.Held.{world_of}
use Rattle.evp_core.specs.WorldShape.{WorldShape}
use Rattle.evp_core.specs.WorldTurned.{WorldTurned, done_by}
use Rattle.evp_core.proofs.HeldOn.{shifted}
use Rattle.evp_core.proofs.Telling.{tells}
use Rattle.evp_core.proofs.world.World.turn.Goals as goal

pub returns-clause-turned : goal.returns-clause-turned
returns-clause-turned c =
    let old = c.self.inside in
    let new = c.go-turn.new in
    let turn = c.go-turn.result in
    subst (λ (w : WorldShape). WorldTurned w (world_of old.cache new.reach.lists new.actors.items c.done_behind-self-inside.result)
    c.args.actor turn) c.self.view_is
    (subst (λ (d : ℕ). WorldTurned (world_of old.cache old.reach.lists old.actors.items old.done)
    (world_of old.cache new.reach.lists new.actors.items d) c.args.actor turn) (sym c.done_behind-self-inside.ensures)
    (shifted old.cache old.reach.lists new.reach.lists old.actors.items new.actors.items old.done c.args.actor turn
    c.go-turn.ensures.turned))

pub returns-clause-answers : goal.returns-clause-answers
returns-clause-answers c =
    let old = c.self.inside in
    let new = c.go-turn.new in
    subst (λ (w : WorldShape). AnswersFor w c.args.actor c.go-turn.result) c.self.view_is
    (tells (world_of old.cache old.reach.lists old.actors.items old.done)
    (world_of old.cache new.reach.lists new.actors.items (done_by c.go-turn.result old.done)) c.args.actor c.go-turn.result
    (shifted old.cache old.reach.lists new.reach.lists old.actors.items new.actors.items old.done c.args.actor c.go-turn.result
    c.go-turn.ensures.turned))
