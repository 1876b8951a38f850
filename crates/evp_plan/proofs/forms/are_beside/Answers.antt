use Rattle.std.proofs.lemmas.List.Elements.{All-more}
use Rattle.evp_plan.specs.Laid.{IsBeside}
use Rattle.evp_plan.proofs.LaneLists.{all_taken}
use Rattle.evp_plan.proofs.forms.are_beside.Goals as goal

pub loop-number-preserved : goal.loop-number-preserved
loop-number-preserved c =
    All-more (IsBeside c.args.pointer.now) c.args.numbers.now c.loop-number.number-index _ c.loop-number-test.true
    c.loop-number.invariant (c.is_beside.ensures c.if-not-is_beside.false)

pub returns : goal.returns
returns c = λ _.
    all_taken (IsBeside c.args.pointer.now) c.args.numbers.now c.loop-number.number-index c.loop-number-test.false
    c.loop-number.invariant
