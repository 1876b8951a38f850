use Rattle.std.specs.List.{All}
use Rattle.std.proofs.lemmas.List.Elements.{All-more}
use Rattle.evp_plan.specs.Laid.{IsBeside}
use Rattle.evp_plan.specs.declared.step.Step.{Step}
use Rattle.evp_plan.proofs.LaneLists.{all_taken}
use Rattle.evp_plan.proofs.forms.are_apart.Goals as goal

pub loop-pointer-preserved : goal.loop-pointer-preserved
loop-pointer-preserved c =
    let Off : Step → Type 0 = λ pointer. All (IsBeside pointer) c.args.numbers.now in
    All-more Off c.args.pointers.now c.loop-pointer.pointer-index _ c.loop-pointer-test.true c.loop-pointer.invariant
    (c.are_beside.ensures c.if-not-are_beside.false)

pub returns : goal.returns
returns c = λ _.
    let Off : Step → Type 0 = λ pointer. All (IsBeside pointer) c.args.numbers.now in
    all_taken Off c.args.pointers.now c.loop-pointer.pointer-index c.loop-pointer-test.false c.loop-pointer.invariant
