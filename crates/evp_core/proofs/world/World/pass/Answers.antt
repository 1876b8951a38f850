use Rattle.std.proofs.Common.{◌≡◌, ℕ, ◌<◌, Bool, Ok, length, subst, arith}
use Rattle.std.proofs.lemmas.Result.{err_from_is_err_and}
use Rattle.evp_core.specs.Held.{Steps}
use Rattle.evp_core.proofs.Rotation.{InPass, pass_starts, pass_moved, pass_rests, pass_stops, stops_so, pass_ends}
use Rattle.evp_core.proofs.world.World.pass.Goals.{then-branch, else-branch}
use Rattle.evp_core.proofs.world.World.pass.Goals as goal

pub loop-actor-init : goal.loop-actor-init
loop-actor-init c = pass_starts c.args.self.now c.count-actor-end.ensures.held

pub loop-actor-preserved : goal.loop-actor-preserved
loop-actor-preserved c =
    let start = c.args.self.now in
    let old = c.loop-actor.self in
    let new = c.step.new.self in
    let number = c.loop-actor.actor in
    elim c.if-branch.branch [
      | then-branch w ↦ (let steps = subst (λ (b : Bool). Steps old new number (Ok b)) w.if-branch.true c.in_ok-step.ensures.steps in
          rw w.moved-is (pass_moved start old new number c.loop-actor.moved c.loop-actor.invariant steps c.in_ok-step.ensures.held))
      | else-branch w ↦ (let steps = subst (λ (b : Bool). Steps old new number (Ok b)) w.if-branch.false c.in_ok-step.ensures.steps in
          rw w.moved-is (pass_rests start old new number c.loop-actor.moved steps.0 c.loop-actor.invariant steps.1 steps.2 steps.3
          c.in_ok-step.ensures.held))
    ]

pub returns-clause-passed : goal.returns-clause-passed
returns-clause-passed c =
    let start = c.args.self.now in
    let now = c.loop-actor.self in
    let all : c.loop-actor.actor ≡ length start.actors =
    (let count = c.count-actor-end.ensures.count in let past = c.loop-actor-test.false in let within = c.loop-actor.auto.actor-end in
    omega arith) in
    pass_ends start now c.loop-actor.moved (subst (λ (n : ℕ). InPass start now n c.loop-actor.moved) all c.loop-actor.invariant)

pub returns-in_err-step-clause-same : goal.returns-in_err-step-clause-same
returns-in_err-step-clause-same c =
    let below : c.loop-actor.actor < length c.args.self.now.actors =
    (let count = c.count-actor-end.ensures.count in let within = c.loop-actor-test.true in omega arith) in
    (pass_stops c.args.self.now c.loop-actor.self c.step.new.self c.loop-actor.actor c.loop-actor.moved c.loop-actor.invariant
    c.in_err-step.ensures.steps c.in_err-step.ensures.held below).0

pub returns-in_err-step-clause-done : goal.returns-in_err-step-clause-done
returns-in_err-step-clause-done c =
    let below : c.loop-actor.actor < length c.args.self.now.actors =
    (let count = c.count-actor-end.ensures.count in let within = c.loop-actor-test.true in omega arith) in
    (pass_stops c.args.self.now c.loop-actor.self c.step.new.self c.loop-actor.actor c.loop-actor.moved c.loop-actor.invariant
    c.in_err-step.ensures.steps c.in_err-step.ensures.held below).1

pub returns-clause-turned : goal.returns-clause-turned
returns-clause-turned c =
    let start = c.args.self.now in
    let all : c.loop-actor.actor ≡ length start.actors =
    (let count = c.count-actor-end.ensures.count in let past = c.loop-actor-test.false in let within = c.loop-actor.auto.actor-end in
    omega arith) in
    (subst (λ (n : ℕ). InPass start c.loop-actor.self n c.loop-actor.moved) all c.loop-actor.invariant).turned

pub returns-in_err-step-clause-stopped : goal.returns-in_err-step-clause-stopped
returns-in_err-step-clause-stopped c =
    let below : c.loop-actor.actor < length c.args.self.now.actors =
    (let count = c.count-actor-end.ensures.count in let within = c.loop-actor-test.true in omega arith) in
    let p = err_from_is_err_and c.from_residual.result c.from_residual.ensures.1 in
    rw p.1 (stops_so c.args.self.now c.loop-actor.self c.step.new.self c.loop-actor.actor c.loop-actor.moved
    c.count-actor-end.ensures.done c.loop-actor.invariant
    c.in_err-step.ensures.steps below)
