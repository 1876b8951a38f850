use Rattle.std.proofs.Common.{◌∙◌, pos, sym, ap}
use Rattle.evp_runner.specs.StepIn.{image_in}
use Rattle.evp_runner.proofs.QuickSizes.{list_if}
use Rattle.evp_runner.proofs.quick.quick_many.Goals as goal

pub returns-clause-passes : goal.returns-clause-passes
returns-clause-passes c =
    list_if c.args.measure.now.plan.now c.args.measure.now.limit (image_in c.args.measure.now.sender) c.args.step.now c.args.origin.now
    c.args.elements.now c.args.at c.from-wanted.result c.args.size c.take_elements.result c.requires.can
    (c.in_ok-wanted_from.ensures ∙ ap (λ n. pos n) (sym c.from-wanted.ensures))
    c.if-has_other_count.ensures c.args.measure.now.sender.are (sym c.if-not-is_quiet.ensures) c.take_elements.ensures.value
