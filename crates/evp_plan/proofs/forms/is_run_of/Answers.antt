use Rattle.evp_plan.proofs.LaidSteps.{run_is}
use Rattle.evp_plan.proofs.forms.is_run_of.Goals as goal

pub returns : goal.returns
returns c = λ told.
    run_is c.args.run.now c.in-Standing.own c.args.count.now c.args.width c.in-Standing.is (c.is_same_source.ensures told)
    c.if-not-run.false c.if-run-width.false
