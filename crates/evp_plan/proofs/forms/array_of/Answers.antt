use Rattle.std.proofs.Common.{sym, ◌∙◌}
use Rattle.evp_plan.proofs.LaidSteps.{array_is}
use Rattle.evp_plan.proofs.forms.array_of.Goals as goal

pub returns : goal.returns
returns c =
    array_is c.args.step.now c.in-Many.origin c.in-Standing.count c.in-Many.elements c.in-Number.kind c.in-Number.from c.in-Number.width
    c.in-Some.run' c.in-Some-form_of.form c.in-Many.is c.in-Standing.is c.in-Number.is c.in-Some.is
    (c.is_run_of.ensures c.if-not-is_run_of.false) (c.is_count.ensures c.if-not-is_count.false) c.in-Some-form_of.ensures
    (sym c.covers.ensures ∙ c.if-not-covers.false)
