use Rattle.std.proofs.Common.{Option, subst}
use Rattle.std.specs.Prelude.{IfSome}
use Rattle.evp_plan.specs.declared.words.Words.{Words}
use Rattle.evp_plan.specs.Quicks.{IsThere}
use Rattle.evp_runner.specs.StepIn.{image_in}
use Rattle.evp_runner.proofs.QuickSizes.{words_pass}
use Rattle.evp_runner.proofs.quick.quick_test.Goals as goal

pub returns-clause-passes : goal.returns-clause-passes
returns-clause-passes c =
    let sender = c.args.measure.now.sender in
    let There : Option Words → Type 0 = λ o. IfSome o (IsThere c.args.at sender.order sender.bytes.now) in
    words_pass c.args.measure.now.plan.now c.args.measure.now.limit (image_in sender) c.args.test.now.step c.args.at c.args.size
    c.args.test.now.words c.in-Some._words c.in-Some.is c.requires.fit c.requires.can sender.are
    (subst There c.in-Some.is c.requires.there)
