use Rattle.std.proofs.Common.{ℕ, ◌≤◌, List, length, subst, ◌∙◌, arith}
use Rattle.std.proofs.lemmas.List.{take_all}
use Rattle.std.proofs.lemmas.Result.{err_from_is_err_and}
use Rattle.evp_core.specs.WorldTurned.{HaveTurned}
use Rattle.evp_core.proofs.Behind.{counts_turns}
use Rattle.evp_core.proofs.Running.{ran_on, as_many, stops}
use Rattle.evp_core.proofs.world.World.run.Goals as goal

pub loop-actor-preserved : goal.loop-actor-preserved
loop-actor-preserved c = record {
  held = c.in_ok-step.ensures.held;
  count = as_many c.loop-actor.self c.step.new.self _ c.in_ok-step.field-0 c.in_ok-step.ensures.steps ∙ c.loop-actor.invariant.count;
  turned = ran_on c.args.self.now c.loop-actor.self c.step.new.self c.args.actors.now c.loop-actor.actor-index c.in_ok-step.field-0
      c.loop-actor-test.true c.loop-actor.invariant.turned c.in_ok-step.ensures.steps;
}

pub returns-in_err-step-clause-stopped : goal.returns-in_err-step-clause-stopped
returns-in_err-step-clause-stopped c =
    let p = err_from_is_err_and c.from_residual.result c.from_residual.ensures.1 in
    rw p.1 (stops c.args.self.now c.loop-actor.self c.step.new.self c.args.actors.now c.loop-actor.actor-index
    c.count.ensures.done c.loop-actor-test.true c.loop-actor.invariant.turned c.in_err-step.ensures.steps)

pub returns-clause-done : goal.returns-clause-done
returns-clause-done c =
    let all : length c.args.actors.now ≤ c.loop-actor.actor-index = (let past = c.loop-actor-test.false in omega arith) in
    counts_turns c.args.self.now c.loop-actor.self c.args.actors.now c.count.ensures.done
    (subst (λ (l : List ℕ). HaveTurned c.args.self.now c.loop-actor.self l) (take_all c.loop-actor.actor-index c.args.actors.now all)
    c.loop-actor.invariant.turned)
