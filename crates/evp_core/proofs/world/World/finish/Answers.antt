use Rattle.std.proofs.Common.{◌+◌, Bool, subst}
use Rattle.std.proofs.lemmas.Result.{err_from_is_err_and}
use Rattle.evp_core.specs.Held.{HasPassed}
use Rattle.evp_core.proofs.Finish.{passes_on, passes_end, few_passes}
use Rattle.evp_core.proofs.Rounds.{rotated, one_pass, stopped_in}
use Rattle.evp_core.proofs.world.World.finish.Goals as goal

pub returns-in_err-pass-clause-turns : goal.returns-in_err-pass-clause-turns
returns-in_err-pass-clause-turns c =
    passes_end c.args.self.now c.loop.self c.pass.new.self c.count.ensures.held c.loop.invariant c.in_err-pass.ensures.done

pub loop-preserved : goal.loop-preserved
loop-preserved c =
    let less = subst (λ (b : Bool). HasPassed c.loop.self c.pass.new.self b) c.if-branch.true c.in_ok-pass.ensures.passed in
    passes_on c.args.self.now c.loop.self c.pass.new.self c.loop.invariant c.in_ok-pass.ensures.same c.in_ok-pass.ensures.held less
    c.in_ok-pass.ensures.done c.in_ok-pass.ensures.turned

pub returns-clause-turned : goal.returns-clause-turned
returns-clause-turned c =
    let start = c.args.self.now in
    let old = c.loop.self in
    let new = c.pass.new.self in
    let passes = c.loop.invariant in
    rotated start new (passes.passes + 1) (one_pass start old new passes.passes passes.passed passes.same.count
    c.in_ok-pass.ensures.turned)
    (few_passes start old c.count.ensures.held passes)

pub returns-in_err-pass-clause-stopped : goal.returns-in_err-pass-clause-stopped
returns-in_err-pass-clause-stopped c =
    let start = c.args.self.now in
    let old = c.loop.self in
    let passes = c.loop.invariant in
    let p = err_from_is_err_and c.from_residual.result c.from_residual.ensures.1 in
    rw p.1 (stopped_in start old c.pass.new.self passes.passes passes.passed passes.same.count c.count.ensures.done
    c.in_err-pass.ensures.stopped
    (few_passes start old c.count.ensures.held passes))

pub returns-clause-turns : goal.returns-clause-turns
returns-clause-turns c =
    passes_end c.args.self.now c.loop.self c.pass.new.self c.count.ensures.held c.loop.invariant c.in_ok-pass.ensures.done
