use Rattle.std.proofs.Common.{◌∙◌, ap, ◌++◌, ◌+◌, drop, List}
use Rattle.evp_plan.specs.declared.step.Step.{Step}
use Rattle.evp_plan.specs.Building.{steps_for}
use Rattle.evp_plan.proofs.Known.{steps_next, steps_end}
use Rattle.evp_plan.proofs.matching.steps_of.Goals as goal

pub loop-k-init : goal.loop-k-init
loop-k-init c = ap (λ (made : List Step). made ++ steps_for c.args.rows c.args.from.now c.args.all.now 0 c.args.all.now)
    c.in_ok-list.ensures.items

pub loop-k-preserved : goal.loop-k-preserved
loop-k-preserved c =
    let rows = c.args.rows in
    let from = c.args.from.now in
    let all = c.args.all.now in
    let k = c.loop-k.k in
    ap (λ (made : List Step). made ++ steps_for rows from all (k + 1) (drop (k + 1) all)) c.in_ok-push.ensures.items
    ∙ steps_next rows from all k c.index-all-k.result c.loop-k.list.items c.step_of.result c.loop-k-test.true c.index-all-k.is
    c.step_of.ensures c.loop-k.invariant

pub returns : goal.returns
returns c = c.from_vec.ensures ∙ steps_end c.args.rows c.args.from.now c.args.all.now c.loop-k.k c.loop-k.list.items c.loop-k-test.false
    c.loop-k.invariant
